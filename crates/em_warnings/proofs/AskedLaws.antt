-- Where the rules are not asked, nothing is found.
use Rattle.std.proofs.Common.{◌≡◌, false, Option, Some, None, cond, refl, ap}
use Rattle.std.specs.Prelude.{Result, Ok, Err}
use Rattle.em_step.specs.Event.{Event}
use Rattle.em_step.specs.declared.event.Answer.{Answer}
use Rattle.em_step.specs.declared.event.Answer.TheVariants as answer
use Rattle.em_step.specs.declared.refusal.Refusal.{Refusal}
use Rattle.em_journal.specs.View.{View}
use Rattle.em_expect.specs.Difference.{register_of}
use Rattle.em_warnings.specs.Warnings.{found_of, is_asked, of_read}

pub unasked : (v : View) (event : Option Event) (came : Option (Result Answer Refusal)) → is_asked came ≡ false
    → found_of v event came ≡ None
unasked v event None is = refl
unasked v event (Some (Err refusal)) is = refl
unasked v event (Some (Ok answer.Done)) is = absurd (cc)
unasked v event (Some (Ok (answer.Value value))) is = ap (λ b. cond b (of_read v (register_of event)) None) is
unasked v event (Some (Ok _)) is = refl
