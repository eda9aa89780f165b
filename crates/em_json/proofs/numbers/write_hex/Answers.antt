use Rattle.std.proofs.Common.{◌++◌, refl}
use Rattle.std.specs.Prelude.{codes}
use Rattle.std.proofs.lemmas.Result.{MatchResult-from_err}
use Rattle.em_text.proofs.WritingLemmas.{WroteFront-more, WroteFront-none, WroteFront-part, Writes-more}
use Rattle.em_text.specs.Writer.{hex_text}
use Rattle.em_json.specs.Text.{octets_text}
use Rattle.em_json.proofs.numbers.write_hex.Goals as goal

pub returns-in_err-write_octets : goal.returns-in_err-write_octets
returns-in_err-write_octets g c =
    let wrote-0 = WroteFront-none (g.W.Write.contents c.args.writer.now) (octets_text c.args.before.now
    c.args.octets.now) in
    let wrote-1 = WroteFront-more (c.args.before.now ++ codes "\"") wrote-0 refl c.in_ok-write_pieces.ensures.writes in
    record {
      writes = MatchResult-from_err _ _ _ c.from_residual-in_err-write_octets.ensures.0 (λ _.
          WroteFront-part (codes "\"") wrote-1 refl c.in_err-write_octets.ensures.writes);
    }

pub returns : goal.returns
returns g c =
    let wrote-0 = WroteFront-none (g.W.Write.contents c.args.writer.now) (octets_text c.args.before.now
    c.args.octets.now) in
    let wrote-1 = WroteFront-more (c.args.before.now ++ codes "\"") wrote-0 refl c.in_ok-write_pieces.ensures.writes in
    let wrote-2 = WroteFront-more (hex_text c.args.octets.now) wrote-1 refl c.in_ok-write_octets.ensures.writes in
    record {
      writes = Writes-more _ _ _ _ wrote-2.front (codes "\"") _ wrote-2.written c.write_whole.ensures.writes
          wrote-2.whole;
    }
