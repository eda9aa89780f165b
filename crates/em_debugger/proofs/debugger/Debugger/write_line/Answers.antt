use Rattle.std.proofs.Common.{◌++◌, refl}
use Rattle.std.proofs.lemmas.Result.{MatchResult-from_err}
use Rattle.em_text.proofs.WritingLemmas.{WroteFront-more, WroteFront-none, WroteFront-part, Writes-more}
use Rattle.em_debugger.specs.History.{answer_text, events_of_text, line_text}
use Rattle.em_debugger.specs.History.{number_of_line_text}
use Rattle.em_debugger.specs.Marks.{marks_of, source_at, source_text}
use Rattle.em_debugger.proofs.debugger.Debugger.write_line.Goals as goal

pub returns-in_err-write_number_of_line : goal.returns-in_err-write_number_of_line
returns-in_err-write_number_of_line g c =
    let d = c.args.self.now in
    let source = source_text (source_at c.args.line (marks_of d)) in
    let wrote-0 = WroteFront-none (g.W.Write.contents c.args.writer.now) (line_text d c.args.here c.args.line) in
    record {
      writes = MatchResult-from_err _ _ _ c.from_residual.ensures.0 (λ _.
          WroteFront-part (source ++ (events_of_text d.tape.did c.args.line ++ answer_text d c.args.line)) wrote-0 refl
          c.in_err-write_number_of_line.ensures.writes);
    }

pub returns-in_err-write_source : goal.returns-in_err-write_source
returns-in_err-write_source g c =
    let d = c.args.self.now in
    let wrote-0 = WroteFront-none (g.W.Write.contents c.args.writer.now) (line_text d c.args.here c.args.line) in
    let wrote-1 = WroteFront-more (number_of_line_text c.args.here c.args.line) wrote-0 refl
    c.in_ok-write_number_of_line.ensures.writes in
    record {
      writes = MatchResult-from_err _ _ _ c.from_residual-in_err-write_source.ensures.0 (λ _.
          WroteFront-part (events_of_text d.tape.did c.args.line ++ answer_text d c.args.line) wrote-1 refl
          c.in_err-write_source.ensures.writes);
    }

pub returns-in_err-write_events_of : goal.returns-in_err-write_events_of
returns-in_err-write_events_of g c =
    let d = c.args.self.now in
    let source = source_text (source_at c.args.line (marks_of d)) in
    let wrote-0 = WroteFront-none (g.W.Write.contents c.args.writer.now) (line_text d c.args.here c.args.line) in
    let wrote-1 = WroteFront-more (number_of_line_text c.args.here c.args.line) wrote-0 refl
    c.in_ok-write_number_of_line.ensures.writes in
    let wrote-2 = WroteFront-more source wrote-1 refl c.in_ok-write_source.ensures.writes in
    record {
      writes = MatchResult-from_err _ _ _ c.from_residual-in_err-write_events_of.ensures.0 (λ _.
          WroteFront-part (answer_text d c.args.line) wrote-2 refl c.in_err-write_events_of.ensures.writes);
    }

pub returns : goal.returns
returns g c =
    let d = c.args.self.now in
    let source = source_text (source_at c.args.line (marks_of d)) in
    let wrote-0 = WroteFront-none (g.W.Write.contents c.args.writer.now) (line_text d c.args.here c.args.line) in
    let wrote-1 = WroteFront-more (number_of_line_text c.args.here c.args.line) wrote-0 refl
    c.in_ok-write_number_of_line.ensures.writes in
    let wrote-2 = WroteFront-more source wrote-1 refl c.in_ok-write_source.ensures.writes in
    let wrote-3 = WroteFront-more (events_of_text d.tape.did c.args.line) wrote-2 refl
    c.in_ok-write_events_of.ensures.writes in
    record {
      writes = Writes-more _ _ _ _ wrote-3.front (answer_text d c.args.line) _ wrote-3.written
          c.write_answer.ensures.writes wrote-3.whole;
    }
