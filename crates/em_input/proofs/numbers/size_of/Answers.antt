use Rattle.std.proofs.Common.{rules, subst, sym}
use Rattle.em_input.specs.Sizes.{IsNumber}
use Rattle.em_input.proofs.numbers.size_of.Goals as goal

-- where the digits write no number, the word says no size
pub returns-in_err-number-clause-all : goal.returns-in_err-number-clause-all
returns-in_err-number-clause-all c = λ size h.
    let some = c.in_err-number.ensures.all h.number (subst (λ w. IsNumber w h.number) (sym c.digits_in.ensures) h.is) in
    search (rules, some)
