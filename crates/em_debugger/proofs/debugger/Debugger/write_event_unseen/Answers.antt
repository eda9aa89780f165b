use Rattle.std.proofs.Common.{◌++◌, refl}
use Rattle.std.proofs.lemmas.Result.{MatchResult-from_err}
use Rattle.em_text.proofs.WritingLemmas.{WroteFront-more, WroteFront-none, WroteFront-part, Writes-more}
use Rattle.std.specs.Prelude.{None, codes}
use Rattle.em_debugger.specs.Marks.{marks_of}
use Rattle.em_debugger.specs.Who.{event_text}
use Rattle.em_debugger.specs.Effect.{unseen_text}
use Rattle.em_debugger.proofs.debugger.Debugger.write_event_unseen.Goals as goal

pub returns-in_err-write_event : goal.returns-in_err-write_event
returns-in_err-write_event g c =
    let wrote-0 = WroteFront-none (g.W.Write.contents c.args.writer.now) (event_text (marks_of c.args.self.now) c.args.self.now.tape c.args.event None ++ (codes "\n" ++ unseen_text c.args.why)) in
    record {
      writes = MatchResult-from_err _ _ _ c.from_residual.ensures.0 (λ _.
          WroteFront-part ((codes "\n") ++ (unseen_text c.args.why)) wrote-0 refl (c.in_err-write_event.ensures.writes));
    }

pub returns-in_err-write_whole : goal.returns-in_err-write_whole
returns-in_err-write_whole g c =
    let wrote-0 = WroteFront-none (g.W.Write.contents c.args.writer.now) (event_text (marks_of c.args.self.now) c.args.self.now.tape c.args.event None ++ (codes "\n" ++ unseen_text c.args.why)) in
    let wrote-1 = WroteFront-more (event_text (marks_of c.args.self.now) c.args.self.now.tape c.args.event None) wrote-0 refl (c.in_ok-write_event.ensures.writes) in
    record {
      writes = MatchResult-from_err _ _ _ c.from_residual-in_err-write_whole.ensures.0 (λ _.
          WroteFront-part (unseen_text c.args.why) wrote-1 refl (c.in_err-write_whole.ensures.writes));
    }

pub returns : goal.returns
returns g c =
    let wrote-0 = WroteFront-none (g.W.Write.contents c.args.writer.now) (event_text (marks_of c.args.self.now) c.args.self.now.tape c.args.event None ++ (codes "\n" ++ unseen_text c.args.why)) in
    let wrote-1 = WroteFront-more (event_text (marks_of c.args.self.now) c.args.self.now.tape c.args.event None) wrote-0 refl (c.in_ok-write_event.ensures.writes) in
    let wrote-2 = WroteFront-more (codes "\n") wrote-1 refl (c.in_ok-write_whole.ensures.writes) in
    record {
      writes = Writes-more _ _ _ _ wrote-2.front (unseen_text c.args.why) _ wrote-2.written (c.write_unseen.ensures.writes) wrote-2.whole;
    }
