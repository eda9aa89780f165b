use Rattle.std.proofs.Common.{refl}
use Rattle.em_script.specs.DriverAnswer.{plain, counts_text, driver_answer_outcome, driver_answer_text}
use Rattle.em_script.proofs.PrintLemmas.{prints_part}
use Rattle.em_script.proofs.driver_output.write_driver_reply.Goals as goal

pub returns-in_err-write_plan : goal.returns-in_err-write_plan
returns-in_err-write_plan g c =
    let failed = c.from_residual-in_err-write_plan in
    let reply = c.args.reply.now in
    prints_part failed.result (driver_answer_outcome (plain reply.answer))
    (driver_answer_text reply.events (plain reply.answer)) (counts_text reply.plan) _ failed.ensures.0
    c.in_ok-outcome.ensures.written c.in_err-write_plan.ensures refl
