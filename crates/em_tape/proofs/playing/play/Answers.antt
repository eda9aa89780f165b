use Rattle.std.proofs.Common.{◌≡◌, ◌∙◌, Some, Ok, Err, length, ap, inl, inr, subst, sym}
use Rattle.std.specs.Prelude.{IfOk, is_ok}
use Rattle.em_line.specs.Grammar.{parsed_line}
use Rattle.em_script.specs.Reply.{Performs, after_line}
use Rattle.em_script.specs.Session.{Session}
use Rattle.em_tape.specs.Known.{Does}
use Rattle.em_tape.specs.Replied.{replied_of}
use Rattle.em_tape.proofs.DidLaws.{replied_failed, replied_ok}
use Rattle.em_tape.proofs.playing.play.Goals as goal

pub returns-in-Ok-clause-done : goal.returns-in-Ok-clause-done
returns-in-Ok-clause-done g c =
    let outcome = c.in-Ok.outcome in
    let parsed = parsed_line c.args.line.now in
    let old = c.args.session.now in
    let new = c.play.new.session in
    let is : replied_of c.play.result ≡ Some (Ok outcome) =
    sym c.replied_of.ensures ∙ c.in_ok-replied.was ∙ ap Some c.in-Ok.is in
    let performs = subst (λ r. IfOk r (λ o. Performs c.args.number parsed old new (g.W.Write.contents c.args.writer.now)
    (g.W.Write.contents c.play.new.writer) (Ok o))) (replied_ok c.play.result outcome is) c.play.ensures.ok in
    let before : c.can_go_back-before.result ≡ length old.machine.past =
    c.can_go_back-before.ensures.past ∙ ap (λ v. length v.past) c.machine.ensures in
    let costs : c.can_go_back-before.result ≡ length old.machine.costs =
    c.can_go_back-before.ensures.costs ∙ ap (λ v. length v.costs) c.machine.ensures in
    let after : c.can_go_back.result ≡ length (after_line performs.memory parsed old).machine.past =
    c.can_go_back.ensures.past ∙ ap (λ v. length v.past) c.machine-2.ensures
    ∙ ap (λ (s : Session). length s.machine.past) performs.session in
    let kind = c.kind_by-kind.ensures performs.memory old performs.prints.ended in
    record {
      performs = performs;
      did = inr (c.did_of.ensures.is performs.memory parsed old kind performs.prints.ended (record {
        before = before;
        after = after;
        started = c.is_started-started.ensures;
        called = c.events_of_call.ensures.value ∙ ap (λ (s : Session). s.events) performs.session;
      }));
      few = c.did_of.ensures.few;
      known = subst (Does c.known_of.result parsed old) (sym performs.session)
          (c.known_of.ensures performs.memory parsed old kind performs.prints.ended before costs after);
    }

pub returns-in-Err-clause-done : goal.returns-in-Err-clause-done
returns-in-Err-clause-done g c =
    let failed = c.in-Err.field-0 in
    let is : replied_of c.play.result ≡ Some (Err failed) =
    sym c.replied_of.ensures ∙ c.in_ok-replied.was ∙ ap Some c.in-Err.is in
    let done = c.play.ensures.write (replied_failed c.play.result failed is) in
    record {
      performs = subst (λ r. Performs c.args.number (parsed_line c.args.line.now) c.args.session.now c.play.new.session
          (g.W.Write.contents c.args.writer.now) (g.W.Write.contents c.play.new.writer) r) (sym c.in-Err.is) done.1;
      did = inl (ap is_ok c.in-Err.is);
      few = c.did_of-in-Err.ensures.few;
      known = tt;
    }
