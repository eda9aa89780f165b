use Rattle.std.proofs.Common.{◌<◌, ◌∙◌, refl, sym, subst, length, arith}
use Rattle.std.specs.Prelude.{max}
use Rattle.em_tape.specs.Tape.{event_of}
use Rattle.em_debugger.specs.Deeper.{IsSeen}
use Rattle.em_debugger.proofs.AccessesLaws.{GoesOn-deeper, GoesOn-full, GoesOn-none, GoesOn-over, GoesOn-unseen}
use Rattle.em_debugger.proofs.DeeperLaws.{again_on, unseen_again, unseen_falls}
use Rattle.em_debugger.proofs.NumberLaws.{event_at-most}
use Rattle.em_debugger.proofs.debugger.Debugger.list_deeper.Goals as goal

pub see-requires-clause-performed : goal.see-requires-clause-performed
see-requires-clause-performed g c =
    let most = event_at-most c.loop-count.deep (max (length c.loop-count.deep.session.machine.past) 0) in
    omega (arith, c.next_unseen-next.ensures, most)

pub returns-then-count-most : goal.returns-then-count-most
returns-then-count-most g c = record {
  ok = GoesOn-full c.args.self.now c.args.deep.now c.loop-count.deep c.args.sort c.args.before c.args.most _ _ _
      c.loop-count.count _ _ c.loop-count.invariant.on c.in_ok-count.ensures.ok refl (omega arith);
}

pub returns-then-next-eq0 : goal.returns-then-next-eq0
returns-then-next-eq0 g c = record {
  ok = GoesOn-over c.args.self.now c.args.deep.now c.loop-count.deep c.args.sort c.args.before c.args.most _ _ _
      c.loop-count.count _ _ c.loop-count.invariant.on c.in_ok-count.ensures.ok refl
      (omega (arith, c.in_ok-count.ensures.ok.few, c.if-count-most.false))
      (sym c.next_unseen-next.ensures ∙ c.if-next-eq0.true);
}

pub returns-in-Err : goal.returns-in-Err
returns-in-Err g c =
    let there = again_on c.args.self.now.settings c.args.self.now.tape c.loop-count.deep c.see.new.deep
    c.in-Err.ensures.kept c.in-Err.ensures.holds c.loop-count.invariant.again in
    record {
      ok = GoesOn-unseen c.args.self.now c.args.deep.now c.loop-count.deep c.args.sort c.args.before c.args.most _ _ _
          c.loop-count.count _ _ c.next_unseen-next.result c.in-Err.why c.loop-count.invariant.on
          c.in_ok-count.ensures.ok refl (omega (arith, c.in_ok-count.ensures.ok.few, c.if-count-most.false))
          c.next_unseen-next.ensures (omega (arith, c.if-next-eq0.false))
          (unseen_again c.args.self.now.settings c.args.self.now.tape c.see.new.deep c.next_unseen-next.result
          c.in-Err.why there c.in-Err.ensures.unseen);
    }

pub loop-count-smaller : goal.loop-count-smaller
loop-count-smaller g c =
    let falls = unseen_falls c.loop-count.deep c.loop-count.invariant.held (omega (arith, c.next_unseen-next.ensures)) in
    let e : event_of c.see.new.deep < event_of c.loop-count.deep =
    omega (arith, falls, c.in_default.ensures.seen.newest, c.next_unseen-next.ensures) in e

pub loop-count-preserved : goal.loop-count-preserved
loop-count-preserved g c =
    let again = again_on c.args.self.now.settings c.args.self.now.tape c.loop-count.deep c.see.new.deep
    c.in_default.ensures.kept c.in_default.ensures.holds c.loop-count.invariant.again in
    record {
      again = again;
      held = c.in_default.ensures.seen.held;
      fewer = omega (arith, c.in_ok-count.ensures.ok.few, c.if-count-most.false);
      on = GoesOn-deeper c.args.self.now c.args.deep.now c.loop-count.deep c.see.new.deep c.args.sort c.args.before
          c.args.most _ _ _ c.loop-count.count _ _ c.loop-count.invariant.on c.in_ok-count.ensures.ok refl
          (omega (arith, c.in_ok-count.ensures.ok.few, c.if-count-most.false))
          (omega (arith, c.next_unseen-next.ensures, c.if-next-eq0.false)) again
          (subst (λ n. IsSeen n c.see.new.deep) c.next_unseen-next.ensures c.in_default.ensures.seen);
    }
