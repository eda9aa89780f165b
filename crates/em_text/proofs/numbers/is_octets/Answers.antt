use Rattle.std.proofs.Common.{◌≡◌, ◌%◌, ◌<◌, length, subst, rules}
use Rattle.std.proofs.lemmas.Bool.{false≢true}
use Rattle.std.specs.Prelude.{IsSome}
use Rattle.em_text.proofs.NumbersLemmas.{octets_of-empty, octets_of-odd, octets_of-digits, digits-octets_of}
use Rattle.em_text.proofs.numbers.is_octets.Goals as goal
use Rattle.em_text.proofs.numbers.is_octets.Goals.{then-is_empty-via-then-is_empty}
use Rattle.em_text.proofs.numbers.is_octets.Goals.{then-is_empty-via-else-is_empty+then-word-eq1}

pub returns-then-is_empty : goal.returns-then-is_empty
returns-then-is_empty c =
    let word = c.args.word.now in (
      λ h. absurd (false≢true h),
      λ some. elim c.then-is_empty.branch [
        | then-is_empty-via-then-is_empty w ↦ subst IsSome (octets_of-empty word (search rules)) some
        | then-is_empty-via-else-is_empty+then-word-eq1 w ↦ subst IsSome (octets_of-odd word (search rules)) some
      ],
    )

pub returns : goal.returns
returns c =
    let word = c.args.word.now in
    let some : 0 < length word = search rules in
    let even : length word % 2 ≡ 0 = search rules in (
      λ h. octets_of-digits word some even (c.has_digits_alone.ensures.0 h),
      λ h. c.has_digits_alone.ensures.1 (digits-octets_of word some h),
    )
