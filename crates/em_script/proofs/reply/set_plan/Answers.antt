use Rattle.std.proofs.Common.{rules, refl}
use Rattle.em_text.specs.Words.{words_of}
use Rattle.em_line.specs.Plan.{plan_of}
use Rattle.em_script.proofs.ReplyLemmas.{plan_set, plan_refused}
use Rattle.em_script.proofs.reply.set_plan.Goals as goal

pub returns-in_default : goal.returns-in_default
returns-in_default g c = λ number.
    plan_refused number (plan_of (words_of c.args.words.words.0.now)) c.args.words.say refl c.write_refusal.ensures

pub returns-then-is_err : goal.returns-then-is_err
returns-then-is_err g c = λ number.
    plan_refused number (plan_of (words_of c.args.words.words.0.now)) c.args.words.say (search rules)
    c.write_refusal-then-is_err.ensures

pub returns : goal.returns
returns g c = λ number.
    plan_set number (plan_of (words_of c.args.words.words.0.now)) _ c.in-Ok.ensures.value (search rules)
    c.write_done.ensures
