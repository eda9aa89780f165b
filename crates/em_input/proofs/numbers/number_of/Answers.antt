use Rattle.std.proofs.lemmas.Str.{IsUtf8-from_ascii}
use Rattle.em_input.proofs.SizesLaws.{number_ascii}
use Rattle.em_input.proofs.numbers.number_of.Goals as goal

-- what writes a number is a text
pub returns-in_default-clause-all : goal.returns-in_default-clause-all
returns-in_default-clause-all c = λ number h.
    let word = c.args.word.now in
    absurd (c.in_default.ensures.cases.0 (IsUtf8-from_ascii word (number_ascii word h.digits)))
