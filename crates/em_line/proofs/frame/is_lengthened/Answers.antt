use Rattle.std.proofs.Common.{subst, rules}
use Rattle.std.specs.Prelude.{IsSome}
use Rattle.std.proofs.lemmas.Bool.{false≢true}
use Rattle.em_text.specs.Numbers.{octets_of}
use Rattle.em_line.specs.Frame.{lengthened}
use Rattle.em_line.proofs.FrameLemmas.{not_lengthened, is_lengthened, some_before}
use Rattle.em_line.proofs.frame.is_lengthened.Goals as goal

pub returns-then-not-may_have : goal.returns-then-not-may_have
returns-then-not-may_have c =
    let bad = c.may_have.ensures.not (search rules) in (
      λ h. absurd (false≢true h),
      λ some. subst IsSome (not_lengthened c.args.digits.now c.args.len bad) some,
    )

pub returns : goal.returns
returns c =
    let may = c.may_have.ensures.may (search rules) in
    let word = c.args.digits.now in (
      λ h. is_lengthened word c.args.len (c.is_octets.ensures.0 h) may.0 may.1,
      λ some. c.is_octets.ensures.1 (some_before (lengthened c.args.len) (octets_of word) some),
    )
