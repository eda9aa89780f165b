use Rattle.std.proofs.Common.{◌≡◌, ◌+◌, ◌*◌, ◌<◌, ◌≤◌, ◌∙◌, length, arith, sym, take, true, inr, inl, get_or}
use Rattle.std.proofs.lemmas.Bool.{lt-ltb}
use Rattle.em_text.specs.Numbers.{digits_len}
use Rattle.em_text.specs.Words.{is_blank}
use Rattle.std.proofs.lemmas.Int.Digits.{digits_value_more}
use Rattle.std.specs.Char.{is_digit, digit_value}
use Rattle.std.specs.Str.Parse.{digits_value}
use Rattle.em_text.proofs.NumbersLemmas.{below_power, value_wraps, value_step}
use Rattle.em_text.proofs.FrontLemmas.{below_next, digits_end}
use Rattle.em_text.proofs.numbers.scan_number.Goals as goal
use Rattle.em_text.proofs.numbers.scan_number.Goals.{else-loop-len-test}
use Rattle.em_text.proofs.numbers.scan_number.Goals.{then-loop-len-test+then-digit-base+else-not-is_blank}

pub returns-then-not-is_blank-clause-none : goal.returns-then-not-is_blank-clause-none
returns-then-not-is_blank-clause-none c = λ _.
    let base = c.args.base in
    let text = c.args.text.now in
    let i = c.loop-len.len in
    let all : i ≡ digits_len base text = digits_end base text i c.loop-len.invariant.within c.loop-len.invariant.digits
    (λ lt. omega (arith, c.value_of-digit.ensures)) in
    inr (rw (← all) (c.loop-len-test.true, sym c.is_blank.ensures ∙ c.if-not-is_blank.true))

pub loop-len-preserved : goal.loop-len-preserved
loop-len-preserved c =
    let i = c.loop-len.len in
    let v = c.loop-len.value in
    let base = c.args.base in
    let text = c.args.text.now in
    let d = c.value_of-digit.result in
    let is : d < base = omega arith in
    let same = c.value_of-digit.ensures in
    let digit : is_digit (get_or text i 0) base ≡ true = lt-ltb _ _ (omega (arith, same)) in
    let exact = λ (le : i + 1 ≤ c.args.most).
    value_wraps base c.args.most i v d (omega arith) (omega arith) (c.loop-len.invariant.small (omega arith)) is
    c.requires.fits in
    rw (c.from.ensures, c.from-in-loop-len.ensures) record {
      within = omega arith;
      digits = below_next (λ k. is_digit (get_or text k 0) base ≡ true) i c.loop-len.invariant.digits digit;
      small = λ le. rw (exact le) (value_step base i v d (c.loop-len.invariant.small (omega arith)) is);
      number = λ le.
          let more : v * base + d ≡ digits_value base (take (i + 1) text) =
          rw (same, c.loop-len.invariant.number (omega arith))
          (sym (digits_value_more base text i c.loop-len-test.true)) in
          exact le ∙ more;
    }

pub returns-then-len-eq0-clause-none : goal.returns-then-len-eq0-clause-none
returns-then-len-eq0-clause-none c = λ _.
    let base = c.args.base in
    let text = c.args.text.now in
    let i = c.loop-len.len in
    let last : (i < length text → base ≤ digit_value (get_or text i 0)) =
    elim c.loop-len-test.branch [
      | else-loop-len-test w ↦ λ lt. absurd (omega arith)
      | then-loop-len-test+then-digit-base+else-not-is_blank w ↦ λ lt. omega (arith, w.value_of-digit.ensures)
    ] in
    let all = digits_end base text i c.loop-len.invariant.within c.loop-len.invariant.digits last in
    inl (inl (sym all ∙ c.if-len-eq0.true))

pub returns-then-len-most-clause-none : goal.returns-then-len-most-clause-none
returns-then-len-most-clause-none c = λ _.
    let base = c.args.base in
    let text = c.args.text.now in
    let i = c.loop-len.len in
    let last : (i < length text → base ≤ digit_value (get_or text i 0)) =
    elim c.loop-len-test.branch [
      | else-loop-len-test w ↦ λ lt. absurd (omega arith)
      | then-loop-len-test+then-digit-base+else-not-is_blank w ↦ λ lt. omega (arith, w.value_of-digit.ensures)
    ] in
    let all = digits_end base text i c.loop-len.invariant.within c.loop-len.invariant.digits last in
    inl (inr (omega (arith, all)))

pub returns-clause-some : goal.returns-clause-some
returns-clause-some c =
    let base = c.args.base in
    let text = c.args.text.now in
    let i = c.loop-len.len in
    let last : (i < length text → base ≤ digit_value (get_or text i 0)) =
    elim c.loop-len-test.branch [
      | else-loop-len-test w ↦ λ lt. absurd (omega arith)
      | then-loop-len-test+then-digit-base+else-not-is_blank w ↦ λ lt. omega (arith, w.value_of-digit.ensures)
    ] in
    let end : (i < length text → is_blank (get_or text i 0) ≡ true) =
    elim c.loop-len-test.branch [
      | else-loop-len-test w ↦ λ lt. absurd (omega arith)
      | then-loop-len-test+then-digit-base+else-not-is_blank w ↦ λ lt.
          sym w.is_blank.ensures ∙ w.if-not-is_blank.false
    ] in
    record {
      digits = digits_end base text i c.loop-len.invariant.within c.loop-len.invariant.digits last;
      some = omega arith;
      short = omega arith;
      within = c.loop-len.invariant.within;
      number = c.loop-len.invariant.number (omega arith);
      bound = below_power base c.args.most i c.loop-len.value (omega arith) (omega arith)
          (c.loop-len.invariant.small (omega arith));
      end = end;
    }
