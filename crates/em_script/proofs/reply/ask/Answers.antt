use Rattle.std.proofs.Common.{◌∙◌, refl}
use Rattle.em_line.specs.Request.{plain_call, starts}
use Rattle.em_script.proofs.ReplyLemmas.{call_made, has_driver_call}
use Rattle.em_script.proofs.reply.ask.Goals as goal

pub returns-in-Start : goal.returns-in-Start
returns-in-Start g c = λ number.
    rw (c.in-Start.is) (call_made number starts c.start_driver-reply.result refl c.start_driver-reply.ensures
    c.write_driver_reply.ensures)

pub returns-in-Ok : goal.returns-in-Ok
returns-in-Ok g c = λ number.
    rw (c.in-Call.is, c.keep_packets.ensures) (call_made number (plain_call c.in-Call.call) c.in-Ok.reply
    (has_driver_call c.in-Call.call c.args.session.now ∙ c.in-Ok.ensures.stands) c.in-Ok.ensures.called
    c.write_driver_reply-written.ensures)
