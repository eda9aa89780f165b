use Rattle.std.proofs.Common.{refl, ◌++◌}
use Rattle.std.specs.Prelude.{take, drop}
use Rattle.std.specs.List.{flat_map}
use Rattle.std.proofs.lemmas.Result.{MatchResult-from_err}
use Rattle.em_text.proofs.WritingLemmas.{WroteFront-more, WroteFront-none, WroteFront-part, Writes-more}
use Rattle.em_line.specs.Look.{looks}
use Rattle.em_prompt.specs.Command.{commands}
use Rattle.em_prompt.specs.Help.{help_text, line_of, line_of_look, words_of_help}
use Rattle.em_prompt.proofs.help.write_whole_help.Goals as goal

pub returns-in_err-write_lines : goal.returns-in_err-write_lines
returns-in_err-write_lines g c =
    let wrote-0 = WroteFront-none (g.W.Write.contents c.args.writer.now) help_text in
    record {
      writes = MatchResult-from_err _ _ _ c.from_residual.ensures.0 (λ _.
          WroteFront-part (flat_map line_of_look looks ++ (flat_map line_of (drop 8 commands) ++ words_of_help)) wrote-0 refl
          c.in_err-write_lines.ensures.writes);
    }

pub returns-in_err-write_looks : goal.returns-in_err-write_looks
returns-in_err-write_looks g c =
    let wrote-0 = WroteFront-none (g.W.Write.contents c.args.writer.now) help_text in
    let wrote-1 = WroteFront-more (flat_map line_of (take 8 commands)) wrote-0 refl c.in_ok-write_lines.ensures.writes in
    record {
      writes = MatchResult-from_err _ _ _ c.from_residual-in_err-write_looks.ensures.0 (λ _.
          WroteFront-part (flat_map line_of (drop 8 commands) ++ words_of_help) wrote-1 refl
          c.in_err-write_looks.ensures.writes);
    }

pub returns-in_err-write_lines-2 : goal.returns-in_err-write_lines-2
returns-in_err-write_lines-2 g c =
    let wrote-0 = WroteFront-none (g.W.Write.contents c.args.writer.now) help_text in
    let wrote-1 = WroteFront-more (flat_map line_of (take 8 commands)) wrote-0 refl c.in_ok-write_lines.ensures.writes in
    let wrote-2 = WroteFront-more (flat_map line_of_look looks) wrote-1 refl c.in_ok-write_looks.ensures.writes in
    record {
      writes = MatchResult-from_err _ _ _ c.from_residual-in_err-write_lines-2.ensures.0 (λ _.
          WroteFront-part (words_of_help) wrote-2 refl
          c.in_err-write_lines-2.ensures.writes);
    }

pub returns : goal.returns
returns g c =
    let wrote-0 = WroteFront-none (g.W.Write.contents c.args.writer.now) help_text in
    let wrote-1 = WroteFront-more (flat_map line_of (take 8 commands)) wrote-0 refl c.in_ok-write_lines.ensures.writes in
    let wrote-2 = WroteFront-more (flat_map line_of_look looks) wrote-1 refl c.in_ok-write_looks.ensures.writes in
    let wrote-3 = WroteFront-more (flat_map line_of (drop 8 commands)) wrote-2 refl c.in_ok-write_lines-2.ensures.writes in
    record {
      writes = Writes-more _ _ _ _ wrote-3.front words_of_help _ wrote-3.written c.write_whole.ensures.writes wrote-3.whole;
    }
