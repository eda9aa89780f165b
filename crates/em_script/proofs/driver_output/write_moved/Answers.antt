use Rattle.std.proofs.Common.{refl}
use Rattle.em_turn.specs.Planned.{lists}
use Rattle.em_script.specs.DriverAnswer.{result_outcome, result_text}
use Rattle.em_output.specs.Wire.{frames_text}
use Rattle.em_script.proofs.PrintLemmas.{prints_part}
use Rattle.em_script.proofs.driver_output.write_moved.Goals as goal

pub returns-in_err-write_packets : goal.returns-in_err-write_packets
returns-in_err-write_packets g c =
    let failed = c.from_residual-in_err-write_packets in
    prints_part failed.result (result_outcome c.args.moved) (result_text c.args.moved)
    (frames_text (lists c.args.packets.now.items)) _ failed.ensures.0 c.in_ok-outcome.ensures.written
    c.in_err-write_packets.ensures.writes refl
