use Rattle.std.proofs.Common.{◌++◌, refl}
use Rattle.std.specs.Prelude.{codes}
use Rattle.std.proofs.lemmas.Result.{MatchResult-from_err}
use Rattle.em_text.proofs.WritingLemmas.{WroteFront-more, WroteFront-none, WroteFront-part, Writes-more}
use Rattle.std.specs.Prelude.{Some}
use Rattle.em_json.specs.Text.{number_text, octets_text}
use Rattle.em_recording.specs.EventText.{gathered_text}
use Rattle.em_recording.proofs.event_text.write_gathered_step.Goals as goal

pub returns-in_err-write_number : goal.returns-in_err-write_number
returns-in_err-write_number g c =
    let wrote-0 = WroteFront-none (g.W.Write.contents c.args.writer.now) (gathered_text (Some c.args.step.now)) in
    record {
      writes = MatchResult-from_err _ _ _ c.from_residual.ensures.0 (λ _. WroteFront-part ((octets_text (codes ",") c.args.step.now.before.items) ++ ((octets_text (codes ",") c.args.step.now.after.items) ++ (codes "]"))) wrote-0 refl c.in_err-write_number.ensures.writes);
    }

pub returns-in_err-write_hex : goal.returns-in_err-write_hex
returns-in_err-write_hex g c =
    let wrote-0 = WroteFront-none (g.W.Write.contents c.args.writer.now) (gathered_text (Some c.args.step.now)) in
    let wrote-1 = WroteFront-more (number_text (codes ",\"gathered\":[") c.args.step.now.kept) wrote-0 refl c.in_ok-write_number.ensures.writes in
    record {
      writes = MatchResult-from_err _ _ _ c.from_residual-in_err-write_hex.ensures.0 (λ _. WroteFront-part ((octets_text (codes ",") c.args.step.now.after.items) ++ (codes "]")) wrote-1 refl (rw c.as_slice.ensures.value at c.in_err-write_hex.ensures.writes));
    }

pub returns-in_err-write_hex-2 : goal.returns-in_err-write_hex-2
returns-in_err-write_hex-2 g c =
    let wrote-0 = WroteFront-none (g.W.Write.contents c.args.writer.now) (gathered_text (Some c.args.step.now)) in
    let wrote-1 = WroteFront-more (number_text (codes ",\"gathered\":[") c.args.step.now.kept) wrote-0 refl c.in_ok-write_number.ensures.writes in
    let wrote-2 = WroteFront-more (octets_text (codes ",") c.args.step.now.before.items) wrote-1 refl (rw c.as_slice.ensures.value at c.in_ok-write_hex.ensures.writes) in
    record {
      writes = MatchResult-from_err _ _ _ c.from_residual-in_err-write_hex-2.ensures.0 (λ _. WroteFront-part (codes "]") wrote-2 refl (rw c.as_slice-2.ensures.value at c.in_err-write_hex-2.ensures.writes));
    }

pub returns : goal.returns
returns g c =
    let wrote-0 = WroteFront-none (g.W.Write.contents c.args.writer.now) (gathered_text (Some c.args.step.now)) in
    let wrote-1 = WroteFront-more (number_text (codes ",\"gathered\":[") c.args.step.now.kept) wrote-0 refl c.in_ok-write_number.ensures.writes in
    let wrote-2 = WroteFront-more (octets_text (codes ",") c.args.step.now.before.items) wrote-1 refl (rw c.as_slice.ensures.value at c.in_ok-write_hex.ensures.writes) in
    let wrote-3 = WroteFront-more (octets_text (codes ",") c.args.step.now.after.items) wrote-2 refl (rw c.as_slice-2.ensures.value at c.in_ok-write_hex-2.ensures.writes) in
    record {
      writes = Writes-more _ _ _ _ wrote-3.front (codes "]") _ wrote-3.written c.write_whole.ensures.writes wrote-3.whole;
    }
