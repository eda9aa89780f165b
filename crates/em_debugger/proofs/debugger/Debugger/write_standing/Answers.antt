use Rattle.std.proofs.Common.{◌≡◌, ◌∙◌, ◌++◌, ◌<◌, ◌≤◌, ap, arith, codes, length, refl, subst}
use Rattle.std.specs.Prelude.{None}
use Rattle.em_journal.specs.View.{View}
use Rattle.em_tape.specs.Tape.{behind}
use Rattle.em_debugger.specs.Effect.{TellsEvent, TellsSeen, again, held, unseen, unseen_text}
use Rattle.em_debugger.specs.Marks.{marks_of}
use Rattle.em_debugger.specs.Who.{event_text}
use Rattle.em_debugger.proofs.EffectLaws.{stands_some}
use Rattle.em_debugger.proofs.TextLaws.{OnOk-told, OnOk-written}
use Rattle.em_debugger.proofs.debugger.Debugger.write_standing.Goals as goal

pub deeper-requires-clause-performed : goal.deeper-requires-clause-performed
deeper-requires-clause-performed g c = (stands_some c.args.event c.args.self.now.tape c.requires).1

pub deeper-requires-clause-some : goal.deeper-requires-clause-some
deeper-requires-clause-some g c = (stands_some c.args.event c.args.self.now.tape c.requires).0

pub returns-then-behind-can_go_back : goal.returns-then-behind-can_go_back
returns-then-behind-can_go_back g c =
    let d = c.args.self.now in
    let past = d.tape.session.machine.past in
    let reach : c.can_go_back.result ≡ length past =
    c.can_go_back.ensures.past ∙ ap (λ (v : View). length v.past) c.machine.ensures.value in
    let lt : behind c.args.event d.tape < length past = omega (arith, c.behind-behind.ensures, reach) in
    record {
      ok = OnOk-told _ _ c.write_seen.result (TellsSeen d c.args.event d.tape c.behind-behind.result)
          (TellsEvent d c.args.event)
          (λ t h. held lt (subst (λ n. TellsSeen d c.args.event d.tape n t) c.behind-behind.ensures h))
          c.write_seen.ensures.ok;
    }

pub returns-in-Ok : goal.returns-in-Ok
returns-in-Ok g c =
    let d = c.args.self.now in
    let past = d.tape.session.machine.past in
    let reach : c.can_go_back.result ≡ length past =
    c.can_go_back.ensures.past ∙ ap (λ (v : View). length v.past) c.machine.ensures.value in
    let le : length past ≤ behind c.args.event d.tape = omega (arith, c.behind-behind.ensures, reach) in
    record {
      ok = OnOk-told _ _ c.write_seen-in-Ok.result (TellsSeen d c.args.event c.in-Ok.deep 0) (TellsEvent d c.args.event)
          (λ t h. again c.in-Ok.deep le c.in-Ok.ensures.again c.in-Ok.ensures.seen h) c.write_seen-in-Ok.ensures.ok;
    }

pub returns-in-Err : goal.returns-in-Err
returns-in-Err g c =
    let d = c.args.self.now in
    let past = d.tape.session.machine.past in
    let reach : c.can_go_back.result ≡ length past =
    c.can_go_back.ensures.past ∙ ap (λ (v : View). length v.past) c.machine.ensures.value in
    let le : length past ≤ behind c.args.event d.tape = omega (arith, c.behind-behind.ensures, reach) in
    record {
      ok = OnOk-written _ _ _ (event_text (marks_of d) d.tape c.args.event None ++ (codes "\n" ++ unseen_text c.in-Err.why))
          (TellsEvent d c.args.event) c.write_event_unseen.ensures.writes
          (unseen c.in-Err.why le c.in-Err.ensures.unseen refl);
    }
