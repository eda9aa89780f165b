use Rattle.std.proofs.Common.{refl}
use Rattle.std.specs.Prelude.{codes}
use Rattle.std.proofs.lemmas.Result.{MatchResult-from_err}
use Rattle.em_text.proofs.WritingLemmas.{WroteFront-more, WroteFront-none, WroteFront-part, Writes-more}
use Rattle.em_names.specs.Names.{name_of}
use Rattle.em_json.specs.Text.{numbers_text}
use Rattle.em_recording.specs.EventText.{register_text}
use Rattle.em_recording.proofs.event_text.write_register.Goals as goal

pub returns-in_err-write_name : goal.returns-in_err-write_name
returns-in_err-write_name g c =
    let wrote-0 = WroteFront-none (g.W.Write.contents c.args.writer.now) (register_text c.args.step.now) in
    let wrote-1 = WroteFront-more (codes "[\"") wrote-0 refl c.in_ok-write_whole.ensures.writes in
    record {
      writes = MatchResult-from_err _ _ _ c.from_residual-in_err-write_name.ensures.0 (λ _.
          WroteFront-part (numbers_text (codes "\",") c.args.step.now.before c.args.step.now.after) wrote-1 refl
          c.in_err-write_name.ensures.writes);
    }

pub returns : goal.returns
returns g c =
    let wrote-0 = WroteFront-none (g.W.Write.contents c.args.writer.now) (register_text c.args.step.now) in
    let wrote-1 = WroteFront-more (codes "[\"") wrote-0 refl c.in_ok-write_whole.ensures.writes in
    let wrote-2 = WroteFront-more (name_of c.args.step.now.reg) wrote-1 refl c.in_ok-write_name.ensures.writes in
    record {
      writes = Writes-more _ _ _ _ wrote-2.front (numbers_text (codes "\",") c.args.step.now.before
          c.args.step.now.after) _ wrote-2.written (rw (c.from-before.ensures, c.from-after.ensures) at
          c.write_numbers.ensures.writes) wrote-2.whole;
    }
