use Rattle.std.proofs.Common.{◌∙◌, ◌-◌, refl, sym, subst, length, arith}
use Rattle.std.specs.Prelude.{max}
use Rattle.em_debugger.specs.Accesses.{WritesHeld}
use Rattle.em_debugger.specs.Deeper.{IsSeen}
use Rattle.em_debugger.proofs.AccessesLaws.{GoesOn-deeper, GoesOn-full, GoesOn-none, GoesOn-over, GoesOn-result}
use Rattle.em_debugger.proofs.AccessesLaws.{GoesOn-unseen}
use Rattle.em_debugger.proofs.NumberLaws.{event_at-most}
use Rattle.em_debugger.proofs.debugger.Debugger.list_newest.Goals as goal

pub deeper-requires-clause-performed : goal.deeper-requires-clause-performed
deeper-requires-clause-performed g c =
    let tape = c.args.self.now.tape in
    let most = event_at-most tape (max (length tape.session.machine.past) 0) in
    omega (arith, c.next_unseen-next.ensures, most)

pub returns-then-count-most : goal.returns-then-count-most
returns-then-count-most g c =
    let d = c.args.self.now in
    let held : WritesHeld d d.tape c.args.sort (c.args.most - 0) (g.W.Write.contents c.args.writer.now)
    (g.W.Write.contents c.write_held.new.writer) c.in_ok-count.count
    = subst (λ m. WritesHeld d d.tape c.args.sort m (g.W.Write.contents c.args.writer.now)
    (g.W.Write.contents c.write_held.new.writer) c.in_ok-count.count) (omega arith) c.in_ok-count.ensures.ok in
    record {
      ok = GoesOn-full d d.tape d.tape c.args.sort 0 c.args.most _ _ _ 0 _ _
          (GoesOn-none d d.tape c.args.sort 0 c.args.most _) held (omega arith)
          (omega (arith, c.if-count-most.true));
    }

pub returns-then-next-eq0 : goal.returns-then-next-eq0
returns-then-next-eq0 g c =
    let d = c.args.self.now in
    let held : WritesHeld d d.tape c.args.sort (c.args.most - 0) (g.W.Write.contents c.args.writer.now)
    (g.W.Write.contents c.write_held.new.writer) c.in_ok-count.count
    = subst (λ m. WritesHeld d d.tape c.args.sort m (g.W.Write.contents c.args.writer.now)
    (g.W.Write.contents c.write_held.new.writer) c.in_ok-count.count) (omega arith) c.in_ok-count.ensures.ok in
    record {
      ok = GoesOn-over d d.tape d.tape c.args.sort 0 c.args.most _ _ _ 0 _ _
          (GoesOn-none d d.tape c.args.sort 0 c.args.most _) held (omega arith)
          (omega (arith, held.few, c.if-count-most.false))
          (sym c.next_unseen-next.ensures ∙ c.if-next-eq0.true);
    }

pub returns-in-Ok : goal.returns-in-Ok
returns-in-Ok g c =
    let d = c.args.self.now in
    let held : WritesHeld d d.tape c.args.sort (c.args.most - 0) (g.W.Write.contents c.args.writer.now)
    (g.W.Write.contents c.write_held.new.writer) c.in_ok-count.count
    = subst (λ m. WritesHeld d d.tape c.args.sort m (g.W.Write.contents c.args.writer.now)
    (g.W.Write.contents c.write_held.new.writer) c.in_ok-count.count) (omega arith) c.in_ok-count.ensures.ok in
    let on = GoesOn-deeper d d.tape d.tape c.in-Ok.deep c.args.sort 0 c.args.most _ _ _ 0 _ _
    (GoesOn-none d d.tape c.args.sort 0 c.args.most _) held (omega arith)
    (omega (arith, held.few, c.if-count-most.false))
    (omega (arith, c.next_unseen-next.ensures)) c.in-Ok.ensures.again
    (subst (λ n. IsSeen n c.in-Ok.deep) c.next_unseen-next.ensures c.in-Ok.ensures.seen) in
    record {
      ok = GoesOn-result d d.tape c.in-Ok.deep c.args.sort 0 c.args.most _ _ _ _ c.list_deeper.result on
          c.list_deeper.ensures.ok;
    }

pub returns-in-Err : goal.returns-in-Err
returns-in-Err g c =
    let d = c.args.self.now in
    let held : WritesHeld d d.tape c.args.sort (c.args.most - 0) (g.W.Write.contents c.args.writer.now)
    (g.W.Write.contents c.write_held.new.writer) c.in_ok-count.count
    = subst (λ m. WritesHeld d d.tape c.args.sort m (g.W.Write.contents c.args.writer.now)
    (g.W.Write.contents c.write_held.new.writer) c.in_ok-count.count) (omega arith) c.in_ok-count.ensures.ok in
    record {
      ok = GoesOn-unseen d d.tape d.tape c.args.sort 0 c.args.most _ _ _ 0 _ _ c.next_unseen-next.result c.in-Err.why
          (GoesOn-none d d.tape c.args.sort 0 c.args.most _) held (omega arith)
          (omega (arith, held.few, c.if-count-most.false))
          c.next_unseen-next.ensures (omega arith) c.in-Err.ensures.unseen;
    }
