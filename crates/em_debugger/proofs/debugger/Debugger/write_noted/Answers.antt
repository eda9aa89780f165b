use Rattle.std.proofs.Common.{◌++◌, refl}
use Rattle.std.specs.Prelude.{codes}
use Rattle.std.proofs.lemmas.Result.{MatchResult-from_err}
use Rattle.em_text.proofs.WritingLemmas.{WroteFront-more, WroteFront-none, WroteFront-part, Writes-more}
use Rattle.std.specs.Prelude.{Some}
use Rattle.em_debugger.specs.Marks.{marks_of}
use Rattle.em_debugger.specs.Who.{event_text}
use Rattle.em_debugger.specs.Accesses.{noted_line}
use Rattle.em_debugger.proofs.debugger.Debugger.write_noted.Goals as goal

pub returns-in_err-write_event : goal.returns-in_err-write_event
returns-in_err-write_event g c =
    let wrote-0 = WroteFront-none (g.W.Write.contents c.args.writer.now) (noted_line (marks_of c.args.self.now) c.args.self.now.tape c.args.noted) in
    record {
      writes = MatchResult-from_err _ _ _ c.from_residual.ensures.0 (λ _.
          WroteFront-part (codes "\n") wrote-0 refl c.in_err-write_event.ensures.writes);
    }

pub returns : goal.returns
returns g c =
    let wrote-0 = WroteFront-none (g.W.Write.contents c.args.writer.now) (noted_line (marks_of c.args.self.now) c.args.self.now.tape c.args.noted) in
    let wrote-1 = WroteFront-more (event_text (marks_of c.args.self.now) c.args.self.now.tape c.args.noted.event (Some c.args.noted.note)) wrote-0 refl c.in_ok-write_event.ensures.writes in
    record {
      writes = Writes-more _ _ _ _ wrote-1.front (codes "\n") _ wrote-1.written c.write_whole.ensures.writes wrote-1.whole;
    }
