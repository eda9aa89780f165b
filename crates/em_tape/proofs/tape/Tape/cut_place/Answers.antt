use Rattle.std.proofs.Common.{◌≡◌, ◌+◌, ◌-◌, ◌<◌, ◌≤◌, ◌∙◌, Some, ap, arith, drop, length, refl, subst, sym, take}
use Rattle.std.specs.Prelude.{get_or, slice_get}
use Rattle.std.proofs.lemmas.List.{length-map}
use Rattle.em_named.specs.Names.{names}
use Rattle.em_named.specs.Place.{kept_of}
use Rattle.em_named.specs.declared.did.Did.TheVariants.{Performed, TookBack}
use Rattle.em_named.proofs.NameLaws.{drop-behind, drop-deeper}
use Rattle.em_named.proofs.PlaceLaws.{place-deeper, place-past, place-still, place-stop}
use Rattle.em_tape.specs.Tape.{Tape}
use Rattle.em_tape.specs.Texts.{texts}
use Rattle.em_tape.proofs.CutLaws.{cut_at, cut_here, leave_more}
use Rattle.em_tape.proofs.TapeLaws.{line_in}
use Rattle.em_tape.proofs.tape.Tape.cut_place.Goals.{in-Performed+else-depth-count, in-TookBack+else-depth-eq0}
use Rattle.em_tape.proofs.tape.Tape.cut_place.Goals as goal

pub returns-then-not-leaves_driver : goal.returns-then-not-leaves_driver
returns-then-not-leaves_driver c =
    let ls = c.self.inside.lines.items in
    let line = c.loop-line.line in
    let now = c.args.self.now in
    let view = c.self.view_is in
    let tape = c.self.invariant.tape in
    let known : now.whole ≤ length now.did = subst (λ (t : Tape). t.whole ≤ length t.did) view tape.known in
    let lt : line - 1 < length ls = omega (
      arith,
      length-map ls (λ v. v.items),
      c.loop-line.invariant.within,
      c.loop-line-test.true,
      tape.known,
      tape.performed,
      ap (λ (t : Tape). t.whole) view,
    ) in
    let at : slice_get (texts ls) (line - 1) ≡ Some c.as_slice.result.now =
    line_in ls (line - 1) c.index.result.now lt c.index.ensures ∙ ap Some (sym c.as_slice.ensures) in
    cut_at now line c.loop-line.depth (subst (λ (t : Tape). 0 < t.back) c.self.view_is (omega (arith, c.if-self-eq0.false))) c.loop-line.invariant.within known
    c.loop-line.invariant.place c.loop-line.invariant.stands c.loop-line.invariant.leave
    (λ less. (
      c.as_slice.result.now,
      subst (λ (t : Tape). slice_get t.lines (line - 1) ≡ Some c.as_slice.result.now) view at,
      c.if-not-leaves_driver.ensures.says refl,
    ))

pub returns-then-depth-eq0 : goal.returns-then-depth-eq0
returns-then-depth-eq0 c =
    let line = c.loop-line.line in
    let depth = c.loop-line.depth in
    let now = c.args.self.now in
    let other = c.index-in-loop-line.result.now in
    let count = c.in-TookBack.count in
    let known : now.whole ≤ length now.did =
    subst (λ (t : Tape). t.whole ≤ length t.did) c.self.view_is c.self.invariant.tape.known in
    let is : get_or now.did (line - 1) other ≡ TookBack count =
    subst (λ (t : Tape). get_or t.did (line - 1) other ≡ TookBack count) c.self.view_is
    (sym c.index-in-loop-line.ensures ∙ c.in-TookBack.is) in
    cut_here now line depth (subst (λ (t : Tape). 0 < t.back) c.self.view_is (omega (arith, c.if-self-eq0.false))) c.loop-line.invariant.within known
    c.loop-line.invariant.place c.loop-line.invariant.stands c.loop-line.invariant.leave
    (place-still line depth count now.did other c.loop-line-test.true
    (omega (arith, c.loop-line.invariant.within, known)) is c.if-depth-eq0.true)

pub returns-then-depth-count : goal.returns-then-depth-count
returns-then-depth-count c =
    let line = c.loop-line.line in
    let depth = c.loop-line.depth in
    let now = c.args.self.now in
    let other = c.index-in-loop-line.result.now in
    let count = c.in-Performed.count in
    let known : now.whole ≤ length now.did =
    subst (λ (t : Tape). t.whole ≤ length t.did) c.self.view_is c.self.invariant.tape.known in
    let is : get_or now.did (line - 1) other ≡ Performed count =
    subst (λ (t : Tape). get_or t.did (line - 1) other ≡ Performed count) c.self.view_is
    (sym c.index-in-loop-line.ensures ∙ c.in-Performed.is) in
    cut_here now line depth (subst (λ (t : Tape). 0 < t.back) c.self.view_is (omega (arith, c.if-self-eq0.false))) c.loop-line.invariant.within known
    c.loop-line.invariant.place c.loop-line.invariant.stands c.loop-line.invariant.leave
    (place-stop line depth count now.did other c.loop-line-test.true
    (omega (arith, c.loop-line.invariant.within, known)) is c.if-depth-count.true)

pub returns-after-loop-line : goal.returns-after-loop-line
returns-after-loop-line c =
    let line = c.loop-line.line in
    let now = c.args.self.now in
    let known : now.whole ≤ length now.did =
    subst (λ (t : Tape). t.whole ≤ length t.did) c.self.view_is c.self.invariant.tape.known in
    cut_at now line c.loop-line.depth (subst (λ (t : Tape). 0 < t.back) c.self.view_is (omega (arith, c.if-self-eq0.false))) c.loop-line.invariant.within known
    c.loop-line.invariant.place c.loop-line.invariant.stands c.loop-line.invariant.leave
    (λ less. absurd (omega (arith, c.loop-line-test.false)))

pub loop-line-preserved : goal.loop-line-preserved
loop-line-preserved c =
    let ls = c.self.inside.lines.items in
    let line = c.loop-line.line in
    let depth = c.loop-line.depth in
    let now = c.args.self.now in
    let did = now.did in
    let view = c.self.view_is in
    let tape = c.self.invariant.tape in
    let other = c.index-in-loop-line.result.now in
    let known : now.whole ≤ length did = subst (λ (t : Tape). t.whole ≤ length t.did) view tape.known in
    let le : line ≤ length did = omega (arith, c.loop-line.invariant.within, known) in
    let some = c.loop-line-test.true in
    let lt : line - 1 < length ls = omega (
      arith,
      length-map ls (λ v. v.items),
      c.loop-line.invariant.within,
      some,
      tape.known,
      tape.performed,
      ap (λ (t : Tape). t.whole) view,
    ) in
    let at : slice_get (texts ls) (line - 1) ≡ Some c.as_slice.result.now =
    line_in ls (line - 1) c.index.result.now lt c.index.ensures ∙ ap Some (sym c.as_slice.ensures) in
    let leave = leave_more line now.whole now.lines c.as_slice.result.now some c.loop-line.invariant.within
    (subst (λ (t : Tape). slice_get t.lines (line - 1) ≡ Some c.as_slice.result.now) view at)
    (c.if-not-leaves_driver.ensures.leaves refl) c.loop-line.invariant.leave in
    elim c.match-index.branch [
      | in-Performed+else-depth-count w ↦
          let count = w.in-Performed.count in
          let is : get_or did (line - 1) other ≡ Performed count =
          subst (λ (t : Tape). get_or t.did (line - 1) other ≡ Performed count) view
          (sym c.index-in-loop-line.ensures ∙ w.in-Performed.is) in
          let left = drop-behind line count depth did other some le is w.if-depth-count.false in
          record {
            within = omega (arith, c.loop-line.invariant.within);
            deep = omega (arith, c.loop-line.invariant.deep, w.depth-is, some);
            place = ap (kept_of (take (line - 1) did)) w.depth-is
                ∙ sym (place-past line depth count did other some le is w.if-depth-count.false)
                ∙ c.loop-line.invariant.place;
            stands = ap (λ n. drop n (names (take (line - 1) did))) w.depth-is ∙ sym left ∙ c.loop-line.invariant.stands;
            leave = leave;
          }
      | in-TookBack+else-depth-eq0 w ↦
          let count = w.in-TookBack.count in
          let is : get_or did (line - 1) other ≡ TookBack count =
          subst (λ (t : Tape). get_or t.did (line - 1) other ≡ TookBack count) view
          (sym c.index-in-loop-line.ensures ∙ w.in-TookBack.is) in
          let deep : 0 < depth = omega (arith, w.if-depth-eq0.false) in
          let left = drop-deeper line count depth did other some le is in
          let more = w.depth-is ∙ ap (λ n. depth + n) w.from-depth.ensures in
          record {
            within = omega (arith, c.loop-line.invariant.within);
            deep = omega (arith, c.loop-line.invariant.deep, w.depth-is, w.from-depth.ensures, some);
            place = ap (kept_of (take (line - 1) did)) more
                ∙ sym (place-deeper line depth count did other some le is deep) ∙ c.loop-line.invariant.place;
            stands = ap (λ n. drop n (names (take (line - 1) did))) more ∙ sym left ∙ c.loop-line.invariant.stands;
            leave = leave;
          }
    ]
