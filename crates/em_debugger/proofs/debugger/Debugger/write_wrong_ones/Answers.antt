use Rattle.std.proofs.Common.{◌++◌, refl}
use Rattle.std.specs.Prelude.{codes}
use Rattle.std.proofs.lemmas.Result.{MatchResult-from_err}
use Rattle.em_text.proofs.WritingLemmas.{WroteFront-more, WroteFront-none, WroteFront-part, Writes-more}
use Rattle.em_debugger.specs.Played.{first_text, others_text, wrong_ones_text}
use Rattle.em_debugger.proofs.debugger.Debugger.write_wrong_ones.Goals as goal

pub returns-in_err-write_first : goal.returns-in_err-write_first
returns-in_err-write_first g c =
    let wrote-0 = WroteFront-none (g.W.Write.contents c.args.writer.now) (wrong_ones_text c.args.self.now
    c.args.played) in
    record {
      writes = MatchResult-from_err _ _ _ c.from_residual.ensures.0 (λ _.
          WroteFront-part ((others_text c.args.played.others) ++ (codes "\n")) wrote-0 refl
          c.in_err-write_first.ensures.writes);
    }

pub returns-in_err-write_others : goal.returns-in_err-write_others
returns-in_err-write_others g c =
    let wrote-0 = WroteFront-none (g.W.Write.contents c.args.writer.now) (wrong_ones_text c.args.self.now
    c.args.played) in
    let wrote-1 = WroteFront-more (first_text c.args.self.now c.args.played.first) wrote-0 refl
    c.in_ok-write_first.ensures.writes in
    record {
      writes = MatchResult-from_err _ _ _ c.from_residual-in_err-write_others.ensures.0 (λ _.
          WroteFront-part (codes "\n") wrote-1 refl c.in_err-write_others.ensures.writes);
    }

pub returns : goal.returns
returns g c =
    let wrote-0 = WroteFront-none (g.W.Write.contents c.args.writer.now) (wrong_ones_text c.args.self.now
    c.args.played) in
    let wrote-1 = WroteFront-more (first_text c.args.self.now c.args.played.first) wrote-0 refl
    c.in_ok-write_first.ensures.writes in
    let wrote-2 = WroteFront-more (others_text c.args.played.others) wrote-1 refl c.in_ok-write_others.ensures.writes in
    record {
      writes = Writes-more _ _ _ _ wrote-2.front (codes "\n") _ wrote-2.written c.write_whole.ensures.writes
          wrote-2.whole;
    }
