-- what is taken and what is free is all that there is
use Rattle.em_rx.specs.Fifo.{octets_in}
use Rattle.em_rx.specs.Frame.{len_of}
use Rattle.em_step.specs.Arrival.{kept_frame}
use Rattle.em_c.proofs.RoomLaws.{free_is_room}
use Rattle.em_c.proofs.fifo.room_of.Goals as goal

pub returns-clause-exact : goal.returns-clause-exact
returns-clause-exact c f =
    let s = c.args.machine.now.present in
    free_is_room (octets_in s.fifo) c.room.result (len_of (kept_frame s f)) c.room.ensures
