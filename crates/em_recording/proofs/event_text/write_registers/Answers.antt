use Rattle.std.proofs.Common.{◌≡◌, ◌++◌, refl}
use Rattle.std.specs.Prelude.{codes}
use Rattle.std.proofs.lemmas.Result.{MatchResult-from_err}
use Rattle.em_text.proofs.WritingLemmas.{WroteFront-more, WroteFront-none, WroteFront-part, Writes-more}
use Rattle.std.specs.Prelude.{◌∷◌}
use Rattle.std.specs.List.{flat_map}
use Rattle.em_recording.specs.EventText.{list_text, register_text}
use Rattle.em_recording.proofs.event_text.write_registers.Goals as goal

pub returns-in_err-write_whole : goal.returns-in_err-write_whole
returns-in_err-write_whole g c =
    let cut : c.args.steps.now ≡ c.in-Some.first.now ∷ c.in-Some.others.now = c.in-Some.ensures.cases.0 in
    let wrote-0 = WroteFront-none (g.W.Write.contents c.args.writer.now) (list_text register_text (codes
    ",\"registers\":[") (c.in-Some.first.now ∷ c.in-Some.others.now)) in
    record {
      writes = rw cut (MatchResult-from_err _ _ _ c.from_residual.ensures.0 (λ _.
          WroteFront-part ((register_text c.in-Some.first.now) ++ ((flat_map (λ step. codes "," ++ register_text step)
          c.in-Some.others.now) ++ (codes "]"))) wrote-0 refl c.in_err-write_whole.ensures.writes));
    }

pub returns-in_err-write_register : goal.returns-in_err-write_register
returns-in_err-write_register g c =
    let cut : c.args.steps.now ≡ c.in-Some.first.now ∷ c.in-Some.others.now = c.in-Some.ensures.cases.0 in
    let wrote-0 = WroteFront-none (g.W.Write.contents c.args.writer.now) (list_text register_text (codes
    ",\"registers\":[") (c.in-Some.first.now ∷ c.in-Some.others.now)) in
    let wrote-1 = WroteFront-more (codes ",\"registers\":[") wrote-0 refl c.in_ok-write_whole.ensures.writes in
    record {
      writes = rw cut (MatchResult-from_err _ _ _ c.from_residual-in_err-write_register.ensures.0 (λ _.
          WroteFront-part ((flat_map (λ step. codes "," ++ register_text step) c.in-Some.others.now) ++ (codes "]"))
          wrote-1 refl c.in_err-write_register.ensures.writes));
    }

pub returns-in_err-write_other_registers : goal.returns-in_err-write_other_registers
returns-in_err-write_other_registers g c =
    let cut : c.args.steps.now ≡ c.in-Some.first.now ∷ c.in-Some.others.now = c.in-Some.ensures.cases.0 in
    let wrote-0 = WroteFront-none (g.W.Write.contents c.args.writer.now) (list_text register_text (codes
    ",\"registers\":[") (c.in-Some.first.now ∷ c.in-Some.others.now)) in
    let wrote-1 = WroteFront-more (codes ",\"registers\":[") wrote-0 refl c.in_ok-write_whole.ensures.writes in
    let wrote-2 = WroteFront-more (register_text c.in-Some.first.now) wrote-1 refl
    c.in_ok-write_register.ensures.writes in
    record {
      writes = rw cut (MatchResult-from_err _ _ _ c.from_residual-in_err-write_other_registers.ensures.0 (λ _.
          WroteFront-part (codes "]") wrote-2 refl c.in_err-write_other_registers.ensures.writes));
    }

pub returns : goal.returns
returns g c =
    let cut : c.args.steps.now ≡ c.in-Some.first.now ∷ c.in-Some.others.now = c.in-Some.ensures.cases.0 in
    let wrote-0 = WroteFront-none (g.W.Write.contents c.args.writer.now) (list_text register_text (codes
    ",\"registers\":[") (c.in-Some.first.now ∷ c.in-Some.others.now)) in
    let wrote-1 = WroteFront-more (codes ",\"registers\":[") wrote-0 refl c.in_ok-write_whole.ensures.writes in
    let wrote-2 = WroteFront-more (register_text c.in-Some.first.now) wrote-1 refl
    c.in_ok-write_register.ensures.writes in
    let wrote-3 = WroteFront-more (flat_map (λ step. codes "," ++ register_text step) c.in-Some.others.now) wrote-2
    refl c.in_ok-write_other_registers.ensures.writes in
    record {
      writes = rw cut (Writes-more _ _ _ _ wrote-3.front (codes "]") _ wrote-3.written c.write_whole-2.ensures.writes
          wrote-3.whole);
    }
