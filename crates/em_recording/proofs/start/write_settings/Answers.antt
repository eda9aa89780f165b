use Rattle.std.proofs.Common.{◌++◌, refl}
use Rattle.std.specs.Prelude.{codes}
use Rattle.std.proofs.lemmas.Result.{MatchResult-from_err}
use Rattle.em_text.proofs.WritingLemmas.{WroteFront-more, WroteFront-none, WroteFront-part, Writes-more}
use Rattle.em_json.specs.Text.{number_text, octets_text}
use Rattle.em_recording.specs.StartText.{settings_end, settings_text}
use Rattle.em_recording.proofs.start.write_settings.Goals as goal

pub returns-in_err-write_number : goal.returns-in_err-write_number
returns-in_err-write_number g c =
    let wrote-0 = WroteFront-none (g.W.Write.contents c.args.writer.now) (settings_text c.args.settings.now) in
    record {
      writes = MatchResult-from_err _ _ _ c.from_residual.ensures.0 (λ _.
          WroteFront-part ((number_text (codes ",\"memory\":") c.args.settings.now.memory) ++ ((number_text (codes ",\"budget\":") c.args.settings.now.budget) ++ ((octets_text (codes ",\"mac\":") c.args.settings.now.mac) ++ (settings_end c.args.settings.now.profile)))) wrote-0 refl c.in_err-write_number.ensures.writes);
    }

pub returns-in_err-write_number-2 : goal.returns-in_err-write_number-2
returns-in_err-write_number-2 g c =
    let wrote-0 = WroteFront-none (g.W.Write.contents c.args.writer.now) (settings_text c.args.settings.now) in
    let wrote-1 = WroteFront-more (number_text (codes "\"settings\":{\"base\":") c.args.settings.now.base) wrote-0 refl c.in_ok-write_number.ensures.writes in
    record {
      writes = MatchResult-from_err _ _ _ c.from_residual-in_err-write_number-2.ensures.0 (λ _.
          WroteFront-part ((number_text (codes ",\"budget\":") c.args.settings.now.budget) ++ ((octets_text (codes ",\"mac\":") c.args.settings.now.mac) ++ (settings_end c.args.settings.now.profile))) wrote-1 refl c.in_err-write_number-2.ensures.writes);
    }

pub returns-in_err-write_number-3 : goal.returns-in_err-write_number-3
returns-in_err-write_number-3 g c =
    let wrote-0 = WroteFront-none (g.W.Write.contents c.args.writer.now) (settings_text c.args.settings.now) in
    let wrote-1 = WroteFront-more (number_text (codes "\"settings\":{\"base\":") c.args.settings.now.base) wrote-0 refl c.in_ok-write_number.ensures.writes in
    let wrote-2 = WroteFront-more (number_text (codes ",\"memory\":") c.args.settings.now.memory) wrote-1 refl c.in_ok-write_number-2.ensures.writes in
    record {
      writes = MatchResult-from_err _ _ _ c.from_residual-in_err-write_number-3.ensures.0 (λ _.
          WroteFront-part ((octets_text (codes ",\"mac\":") c.args.settings.now.mac) ++ (settings_end c.args.settings.now.profile)) wrote-2 refl c.in_err-write_number-3.ensures.writes);
    }

pub returns-in_err-write_hex : goal.returns-in_err-write_hex
returns-in_err-write_hex g c =
    let wrote-0 = WroteFront-none (g.W.Write.contents c.args.writer.now) (settings_text c.args.settings.now) in
    let wrote-1 = WroteFront-more (number_text (codes "\"settings\":{\"base\":") c.args.settings.now.base) wrote-0 refl c.in_ok-write_number.ensures.writes in
    let wrote-2 = WroteFront-more (number_text (codes ",\"memory\":") c.args.settings.now.memory) wrote-1 refl c.in_ok-write_number-2.ensures.writes in
    let wrote-3 = WroteFront-more (number_text (codes ",\"budget\":") c.args.settings.now.budget) wrote-2 refl c.in_ok-write_number-3.ensures.writes in
    record {
      writes = MatchResult-from_err _ _ _ c.from_residual-in_err-write_hex.ensures.0 (λ _.
          WroteFront-part (settings_end c.args.settings.now.profile) wrote-3 refl c.in_err-write_hex.ensures.writes);
    }

pub returns : goal.returns
returns g c =
    let wrote-0 = WroteFront-none (g.W.Write.contents c.args.writer.now) (settings_text c.args.settings.now) in
    let wrote-1 = WroteFront-more (number_text (codes "\"settings\":{\"base\":") c.args.settings.now.base) wrote-0 refl c.in_ok-write_number.ensures.writes in
    let wrote-2 = WroteFront-more (number_text (codes ",\"memory\":") c.args.settings.now.memory) wrote-1 refl c.in_ok-write_number-2.ensures.writes in
    let wrote-3 = WroteFront-more (number_text (codes ",\"budget\":") c.args.settings.now.budget) wrote-2 refl c.in_ok-write_number-3.ensures.writes in
    let wrote-4 = WroteFront-more (octets_text (codes ",\"mac\":") c.args.settings.now.mac) wrote-3 refl c.in_ok-write_hex.ensures.writes in
    record {
      writes = Writes-more _ _ _ _ wrote-4.front (settings_end c.args.settings.now.profile) _ wrote-4.written (rw c.settings_end.ensures at c.write_whole.ensures.writes)
          wrote-4.whole;
    }
