use Rattle.std.proofs.Common.{◌≡◌, ◌∙◌, ◌+◌, ◌<◌, refl, None, Some, inl, inr, ap, subst, arith}
use Rattle.std.specs.Prelude.{max}
use Rattle.em_tape.specs.Tape.{event_at}
use Rattle.em_text.specs.Writer.{Writes}
use Rattle.em_debugger.specs.Who.{unreached_text}
use Rattle.em_debugger.proofs.WhoLaws.{TellsAll-end, ToldSo-more, left_falls, then_back}
use Rattle.em_debugger.proofs.debugger.Debugger.who_all.Goals as goal

pub loop-event-preserved : goal.loop-event-preserved
loop-event-preserved g c =
    let tape = c.args.self.now.tape in
    let back : c.max-back.result ≡ then_back tape c.in-Found.found c.loop-event.back =
    c.max-back.ensures ∙ ap (λ n. max n (c.loop-event.back + 1)) c.steps_before.ensures in
    ToldSo-more c.args.self.now c.args.watch _ _ _ c.loop-event.event c.loop-event.back c.loop-event.count
    c.event_back-event.result c.max-back.result (c.loop-event.count + 1) c.in-Found.found c.loop-event.invariant
    (omega arith) c.in-Found.ensures c.in_ok-write_found-in-Found.ensures.writes back c.event_back-event.ensures refl

pub loop-event-smaller : goal.loop-event-smaller
loop-event-smaller g c =
    let tape = c.args.self.now.tape in
    let further : c.loop-event.back < c.max-back.result = omega (arith, c.max-back.ensures) in
    let falls = left_falls tape c.loop-event.back c.max-back.result further (omega (arith, c.loop-event.invariant.left)) in
    let e : c.event_back-event.result < c.loop-event.event =
    omega (arith, falls, c.event_back-event.ensures, c.loop-event.invariant.left) in e

pub returns-in-Never : goal.returns-in-Never
returns-in-Never g c = record {
  ok = TellsAll-end c.args.self.now c.args.watch _ _ _ c.write_changes.result c.loop-event.event c.loop-event.back
      c.loop-event.count None c.loop-event.invariant (inr c.in-Never.ensures) c.write_changes.ensures.writes;
}

pub returns-in-Unreached : goal.returns-in-Unreached
returns-in-Unreached g c =
    let contents = g.W.Write.contents in
    record {
      ok = TellsAll-end c.args.self.now c.args.watch _ _ _ c.write_unreached.result c.loop-event.event c.loop-event.back
          c.loop-event.count (Some c.in-Unreached.why) c.loop-event.invariant c.in-Unreached.ensures
          (subst (λ e. Writes (contents c.loop-event.writer) (contents c.write_unreached.new.writer)
          c.write_unreached.result (unreached_text c.args.watch e c.in-Unreached.why))
          c.loop-event.invariant.left c.write_unreached.ensures.writes);
    }

pub returns : goal.returns
returns g c =
    let none : event_at c.loop-event.back c.args.self.now.tape ≡ 0 = omega (arith, c.loop-event.invariant.left) in
    record {
      ok = TellsAll-end c.args.self.now c.args.watch _ _ _ c.write_changes-2.result c.loop-event.event c.loop-event.back
          c.loop-event.count None c.loop-event.invariant (inl none) c.write_changes-2.ensures.writes;
    }
