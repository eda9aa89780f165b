use Rattle.std.proofs.Common.{◌++◌, refl}
use Rattle.std.proofs.lemmas.Result.{MatchResult-from_err}
use Rattle.em_text.proofs.WritingLemmas.{WroteFront-more, WroteFront-none, WroteFront-part, Writes-more}
use Rattle.std.specs.Prelude.{codes}
use Rattle.em_debugger.specs.Marks.{line_number_text}
use Rattle.em_tape.specs.Texts.{texts}
use Rattle.em_debugger.specs.Who.{what_text}
use Rattle.em_debugger.specs.Moves.{line_text}
use Rattle.em_debugger.proofs.moves.write_line.Goals as goal

pub returns-in_err-write_line_number : goal.returns-in_err-write_line_number
returns-in_err-write_line_number g c =
    let wrote-0 = WroteFront-none (g.W.Write.contents c.args.writer.now) (line_text (texts c.args.marks.now.answers.items) c.args.tape.now c.args.line c.args.note) in
    record {
      writes = MatchResult-from_err _ _ _ c.from_residual.ensures.0 (λ _.
          WroteFront-part (what_text (texts c.args.marks.now.answers.items) c.args.tape.now c.args.line c.args.note ++ codes ")\n") wrote-0 refl
          c.in_err-write_line_number.ensures.writes);
    }

pub returns-in_err-write_what : goal.returns-in_err-write_what
returns-in_err-write_what g c =
    let wrote-0 = WroteFront-none (g.W.Write.contents c.args.writer.now) (line_text (texts c.args.marks.now.answers.items) c.args.tape.now c.args.line c.args.note) in
    let wrote-1 = WroteFront-more (line_number_text (texts c.args.marks.now.answers.items) (codes "(line ") c.args.line (codes ", ")) wrote-0 refl c.in_ok-write_line_number.ensures.writes in
    record {
      writes = MatchResult-from_err _ _ _ c.from_residual-in_err-write_what.ensures.0 (λ _.
          WroteFront-part (codes ")\n") wrote-1 refl c.in_err-write_what.ensures.writes);
    }

pub returns : goal.returns
returns g c =
    let wrote-0 = WroteFront-none (g.W.Write.contents c.args.writer.now) (line_text (texts c.args.marks.now.answers.items) c.args.tape.now c.args.line c.args.note) in
    let wrote-1 = WroteFront-more (line_number_text (texts c.args.marks.now.answers.items) (codes "(line ") c.args.line (codes ", ")) wrote-0 refl c.in_ok-write_line_number.ensures.writes in
    let wrote-2 = WroteFront-more (what_text (texts c.args.marks.now.answers.items) c.args.tape.now c.args.line c.args.note) wrote-1 refl c.in_ok-write_what.ensures.writes in
    record {
      writes = Writes-more _ _ _ _ wrote-2.front (codes ")\n") _ wrote-2.written c.write_whole.ensures.writes wrote-2.whole;
    }
