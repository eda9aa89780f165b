use Rattle.std.proofs.Common.{ℕ, List, ◌++◌, codes, refl}
use Rattle.std.proofs.lemmas.Result.{MatchResult-from_err}
use Rattle.em_text.proofs.WritingLemmas.{Writes-more, WritesPart-front, WroteFront-more, WroteFront-none, WroteFront-part}
use Rattle.em_debugger.specs.Warned.{names_text, none_near_text}
use Rattle.em_debugger.proofs.warned.write_none_near.Goals as goal

abbrev front : List ℕ → List ℕ
front word = codes "no rule " ++ (word ++ codes "; the rules are")

pub returns-in_err-write_pieces : goal.returns-in_err-write_pieces
returns-in_err-write_pieces g c = record {
  writes = MatchResult-from_err _ _ _ c.from_residual.ensures.0 (λ _.
      WritesPart-front (names_text c.args.rules.now ++ codes "\n") c.in_err-write_pieces.ensures.writes refl);
}

pub returns-in_err-write_names : goal.returns-in_err-write_names
returns-in_err-write_names g c =
    let word = c.args.word.now in
    let wrote-0 = WroteFront-none (g.W.Write.contents c.args.writer.now) (none_near_text word c.args.rules.now) in
    let wrote-1 = WroteFront-more (front word) wrote-0 refl c.in_ok-write_pieces.ensures.writes in
    record {
      writes = MatchResult-from_err _ _ _ c.from_residual-in_err-write_names.ensures.0 (λ _.
          WroteFront-part (codes "\n") wrote-1 refl c.in_err-write_names.ensures.writes);
    }

pub returns : goal.returns
returns g c =
    let word = c.args.word.now in
    let wrote-0 = WroteFront-none (g.W.Write.contents c.args.writer.now) (none_near_text word c.args.rules.now) in
    let wrote-1 = WroteFront-more (front word) wrote-0 refl c.in_ok-write_pieces.ensures.writes in
    let wrote-2 = WroteFront-more (names_text c.args.rules.now) wrote-1 refl c.in_ok-write_names.ensures.writes in
    record {
      writes = Writes-more _ _ _ _ wrote-2.front (codes "\n") _ wrote-2.written c.write_whole.ensures.writes wrote-2.whole;
    }
