use Rattle.std.proofs.Common.{◌++◌, refl}
use Rattle.std.specs.Prelude.{codes}
use Rattle.std.proofs.lemmas.Result.{MatchResult-from_err}
use Rattle.em_text.proofs.WritingLemmas.{WroteFront-more, WroteFront-none, WroteFront-part, Writes-more}
use Rattle.std.specs.Str.Lossy.{utf8_lossy}
use Rattle.em_json.specs.Strings.{escaped, string_text}
use Rattle.em_json.proofs.strings.write_string.Goals as goal

pub returns-in_err-write_whole : goal.returns-in_err-write_whole
returns-in_err-write_whole g c =
    let wrote-0 = WroteFront-none (g.W.Write.contents c.args.writer.now) (string_text c.args.octets.now) in
    record {
      writes = MatchResult-from_err _ _ _ c.from_residual.ensures.0 (λ _. WroteFront-part ((escaped (utf8_lossy c.args.octets.now)) ++ (codes "\"")) wrote-0 refl c.in_err-write_whole.ensures.writes);
    }

pub returns-in_err-write_lossy : goal.returns-in_err-write_lossy
returns-in_err-write_lossy g c =
    let wrote-0 = WroteFront-none (g.W.Write.contents c.args.writer.now) (string_text c.args.octets.now) in
    let wrote-1 = WroteFront-more (codes "\"") wrote-0 refl c.in_ok-write_whole.ensures.writes in
    record {
      writes = MatchResult-from_err _ _ _ c.from_residual-in_err-write_lossy.ensures.0 (λ _. WroteFront-part (codes "\"") wrote-1 refl c.in_err-write_lossy.ensures.writes);
    }

pub returns : goal.returns
returns g c =
    let wrote-0 = WroteFront-none (g.W.Write.contents c.args.writer.now) (string_text c.args.octets.now) in
    let wrote-1 = WroteFront-more (codes "\"") wrote-0 refl c.in_ok-write_whole.ensures.writes in
    let wrote-2 = WroteFront-more (escaped (utf8_lossy c.args.octets.now)) wrote-1 refl c.in_ok-write_lossy.ensures.writes in
    record {
      writes = Writes-more _ _ _ _ wrote-2.front (codes "\"") _ wrote-2.written c.write_whole-2.ensures.writes wrote-2.whole;
    }
