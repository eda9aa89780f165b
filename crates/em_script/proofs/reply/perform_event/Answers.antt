use Rattle.em_script.proofs.ReplyLemmas.{event_performed, event_refused}
use Rattle.em_script.proofs.reply.perform_event.Goals as goal

pub returns-in-Ok : goal.returns-in-Ok
returns-in-Ok g c = event_performed c.in-Ok.answer c.in-Ok.ensures.ok.does c.write_answer.ensures

pub returns-in-Err : goal.returns-in-Err
returns-in-Err g c = event_refused c.in-Err.refusal c.in-Err.ensures.err c.write_refusal.ensures
