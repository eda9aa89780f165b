use Rattle.std.proofs.Common.{◌≡◌, ◌+◌, ◌-◌, ◌%◌, true, [], ◌∷◌, ◌++◌, drop, length-set, refl, ap, sym, ◌∙◌, arith}
use Rattle.std.proofs.lemmas.List.{drop-set}
use Rattle.std.proofs.DigitsParse.{digits_onto-nil, digits_onto_last, digits_onto_step}
use Rattle.std.specs.Fmt.{digit_glyph}
use Rattle.em_kept.proofs.DigitSteps.{longer, onto_behind}
use Rattle.em_kept.proofs.digits.put_digits.Goals as goal

pub loop-left-init : goal.loop-left-init
loop-left-init c =
    let end = c.args.end in
    let behind = drop end c.args.line.now in
    let one : end - 1 + 1 ≡ end = omega (arith, c.requires) in
    let all : 65 + (end - 1) - end ≡ 64 = omega (arith, c.requires) in
    let most : end - 1 + 16 - end + 1 ≡ 16 = omega (arith, c.requires) in (
      omega (arith, c.requires),
      omega (arith, c.requires),
      refl,
      rw most (omega (arith, c.ranges.number.fits)),
      rw (one, all) (onto_behind 64 c.args.number [] behind ∙ ap (λ l. l ++ behind) (digits_onto-nil 16 true c.args.number)),
    )

pub loop-left-preserved : goal.loop-left-preserved
loop-left-preserved c =
    let l = c.loop-left in
    let end = c.args.end in
    let is = longer (l.at + 16 - end) l.left c.loop-left-test.true l.invariant.3 in
    let next : 65 + (l.at - 1) - end ≡ 65 + l.at - end - 1 = omega (arith, is.some, c.requires, l.invariant.1) in
    let less : l.at - 1 + 16 - end + 1 ≡ l.at + 16 - end = omega (arith, is.some, c.requires) in
    let one : l.at - 1 + 1 ≡ l.at = omega (arith, is.some, c.requires) in (
      omega (arith, l.invariant.0),
      omega (arith, is.some, c.requires),
      length-set l.line l.at c.digit.result ∙ l.invariant.2,
      rw less is.fits,
      rw (one, drop-set l.line l.at c.digit.result (omega (arith, l.invariant.0, l.invariant.2, c.requires)), c.digit.ensures, next)
          (sym (digits_onto_step 16 true l.left _ (65 + l.at - end) (omega (arith, l.invariant.1)) (λ e. omega (arith, e, c.loop-left-test.true)))
          ∙ l.invariant.4),
    )

pub returns-clause-digits : goal.returns-clause-digits
returns-clause-digits c =
    let l = c.loop-left in
    let low : l.left % 16 ≡ l.left = omega (arith, c.loop-left-test.false) in
    rw (drop-set l.line l.at c.digit-2.result (omega (arith, l.invariant.0, l.invariant.2, c.requires)), c.digit-2.ensures)
    (ap (λ d. digit_glyph true d ∷ drop (l.at + 1) l.line) (sym low)
    ∙ sym (digits_onto_last 16 true l.left _ (65 + l.at - c.args.end) (omega (arith, l.invariant.1)) (omega (arith, c.loop-left-test.false)))
    ∙ l.invariant.4)
