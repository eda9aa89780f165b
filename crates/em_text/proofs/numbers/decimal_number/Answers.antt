use Rattle.std.proofs.Common.{sym, refl, arith}
use Rattle.em_text.proofs.FrontLemmas.{number_front, number_part, number_none}
use Rattle.em_text.proofs.numbers.decimal_number.Goals as goal

pub returns-in-Some : goal.returns-in-Some
returns-in-Some c =
    let front = c.in-Some.ensures.some in
    record { value = sym (number_front 10 7 c.args.word.now c.in-Some.value c.in-Some.len front (omega arith)) }

pub returns-in_default : goal.returns-in_default
returns-in_default c =
    let front = c.in-Some.ensures.some in
    record { value = sym (number_part 10 7 c.args.word.now (omega (arith, front.digits, front.within))) }

pub returns-in_default-2 : goal.returns-in_default-2
returns-in_default-2 c =
    let wrong = rw c.in_default.is at c.scan_number.ensures.none in
    record { value = sym (number_none 10 7 c.args.word.now (wrong refl)) }
