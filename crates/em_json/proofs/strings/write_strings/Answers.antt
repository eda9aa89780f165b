use Rattle.std.proofs.Common.{refl}
use Rattle.std.specs.Prelude.{codes}
use Rattle.std.proofs.lemmas.Result.{MatchResult-from_err}
use Rattle.em_text.proofs.WritingLemmas.{WroteFront-more, WroteFront-none, WroteFront-part, Writes-more}
use Rattle.em_text.specs.Lines.{lines_of}
use Rattle.em_json.specs.Strings.{joined, strings_text}
use Rattle.em_json.proofs.strings.write_strings.Goals as goal

pub returns-in_err-write_joined : goal.returns-in_err-write_joined
returns-in_err-write_joined g c =
    let wrote-0 = WroteFront-none (g.W.Write.contents c.args.writer.now) (strings_text c.args.text.now) in
    let wrote-1 = WroteFront-more (codes "[") wrote-0 refl c.in_ok-write_whole.ensures.writes in
    record {
      writes = MatchResult-from_err _ _ _ c.from_residual-in_err-write_joined.ensures.0 (λ _.
          WroteFront-part (codes "]") wrote-1 refl c.in_err-write_joined.ensures.writes);
    }

pub returns : goal.returns
returns g c =
    let wrote-0 = WroteFront-none (g.W.Write.contents c.args.writer.now) (strings_text c.args.text.now) in
    let wrote-1 = WroteFront-more (codes "[") wrote-0 refl c.in_ok-write_whole.ensures.writes in
    let wrote-2 = WroteFront-more (joined (lines_of c.args.text.now)) wrote-1 refl c.in_ok-write_joined.ensures.writes in
    record {
      writes = Writes-more _ _ _ _ wrote-2.front (codes "]") _ wrote-2.written c.write_whole-2.ensures.writes wrote-2.whole;
    }
