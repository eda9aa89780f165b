use Rattle.std.proofs.Common.{◌≡◌, ◌+◌, ◌-◌, ◌∷◌, ◌∙◌, suc, Some, ap, arith, drop, take, sym}
use Rattle.std.specs.Option.{option_map}
use Rattle.em_tape.specs.Known.{events_in}
use Rattle.em_tape.specs.declared.known.Known.TheVariants.{Nothing}
use Rattle.em_tape.proofs.AgainLaws.{events_before}
use Rattle.em_tape.proofs.known.line_before.Goals as goal

pub loop-left-preserved-in-Nothing : goal.loop-left-preserved-in-Nothing
loop-left-preserved-in-Nothing c =
    let line = c.loop-left.line - 1 in
    let next : c.loop-left.line ≡ line + 1 = omega arith in
    let rest = events_before c.args.whole line c.args.known.now Nothing (omega arith) (omega (arith, c.requires)) in
    record {
      within = omega (arith, c.loop-left.invariant.within);
      few = c.loop-left.invariant.few;
      behind = rest
          ∙ ap (λ d. events_in (d ∷ take (c.args.whole - (line + 1)) (drop (line + 1) c.args.known.now))) c.in-Nothing.is
          ∙ ap (λ n. events_in (take (c.args.whole - n) (drop n c.args.known.now))) (sym next)
          ∙ c.loop-left.invariant.behind;
    }

pub loop-left-preserved : goal.loop-left-preserved
loop-left-preserved c =
    let line = c.loop-left.line - 1 in
    let next : c.loop-left.line ≡ line + 1 = omega arith in
    let rest = events_before c.args.whole line c.args.known.now Nothing (omega arith) (omega (arith, c.requires)) in
    let more : suc (c.args.events - c.loop-left.left) ≡ c.args.events - (c.loop-left.left - 1) =
    omega (arith, c.loop-left.invariant.few, c.loop-left-test.true) in
    record {
      within = omega (arith, c.loop-left.invariant.within);
      few = omega (arith, c.loop-left.invariant.few);
      behind = rest
          ∙ ap (λ d. events_in (d ∷ take (c.args.whole - (line + 1)) (drop (line + 1) c.args.known.now))) c.in-OneEvent.is
          ∙ ap (option_map suc) (ap (λ n. events_in (take (c.args.whole - n) (drop n c.args.known.now))) (sym next)
          ∙ c.loop-left.invariant.behind) ∙ ap Some more;
    }
