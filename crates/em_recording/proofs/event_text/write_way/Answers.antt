use Rattle.std.proofs.Common.{refl}
use Rattle.std.specs.Prelude.{codes}
use Rattle.std.proofs.lemmas.Result.{MatchResult-from_err}
use Rattle.em_text.proofs.WritingLemmas.{WroteFront-more, WroteFront-none, WroteFront-part, Writes-more}
use Rattle.std.specs.Prelude.{Some}
use Rattle.em_json.specs.Text.{flag_text}
use Rattle.em_recording.specs.EventText.{way_text}
use Rattle.em_recording.proofs.event_text.write_way.Goals as goal

pub returns-in_err-write_flag-2 : goal.returns-in_err-write_flag-2
returns-in_err-write_flag-2 g c =
    let wrote-0 = WroteFront-none (g.W.Write.contents c.args.writer.now) (way_text c.args.before.now (Some
    c.in-Some.step)) in
    let wrote-1 = WroteFront-more (flag_text c.args.before.now c.in-Some.step.before) wrote-0 refl
    c.in_ok-write_flag.ensures.writes in
    record {
      writes = rw c.in-Some.is (MatchResult-from_err _ _ _ c.from_residual-in_err-write_flag-2.ensures.0 (λ _.
          WroteFront-part (codes "]") wrote-1 refl c.in_err-write_flag-2.ensures.writes));
    }

pub returns : goal.returns
returns g c =
    let wrote-0 = WroteFront-none (g.W.Write.contents c.args.writer.now) (way_text c.args.before.now (Some
    c.in-Some.step)) in
    let wrote-1 = WroteFront-more (flag_text c.args.before.now c.in-Some.step.before) wrote-0 refl
    c.in_ok-write_flag.ensures.writes in
    let wrote-2 = WroteFront-more (flag_text (codes ",") c.in-Some.step.after) wrote-1 refl
    c.in_ok-write_flag-2.ensures.writes in
    record {
      writes = rw c.in-Some.is (Writes-more _ _ _ _ wrote-2.front (codes "]") _ wrote-2.written
          c.write_whole.ensures.writes wrote-2.whole);
    }
