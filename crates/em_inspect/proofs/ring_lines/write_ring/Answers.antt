use Rattle.std.proofs.Common.{◌∙◌, ℕ, Bool, List, ◌++◌, sym, ap}
use Rattle.std.proofs.lemmas.Result.{MatchResult-from_err}
use Rattle.em_text.proofs.WritingLemmas.{Writes-more, WritesPart-front}
use Rattle.em_inspect.specs.RingText.{descriptors_text, ring_line, shown}
use Rattle.em_inspect.proofs.ring_lines.write_ring.Goals as goal

pub returns-in_err-write_ring_line : goal.returns-in_err-write_ring_line
returns-in_err-write_ring_line g c =
    let ring = c.args.ring.now in
    let lines : Bool → List ℕ
    =
    λ o. descriptors_text ring c.args.machine.now.present.base c.args.machine.now.present.memory c.args.from
    (shown ring o c.args.from c.args.most) in
    let outside = c.is_outside-outside.result in
    record {
      writes = MatchResult-from_err _ _ _ c.from_residual.ensures.0 (λ _.
          WritesPart-front (lines outside) c.in_err-write_ring_line.ensures.writes
          (ap (λ (o : Bool). ring_line ring o ++ lines o) (sym c.is_outside-outside.ensures)));
    }

pub returns : goal.returns
returns g c =
    let ring = c.args.ring.now in
    let lines : ℕ → List ℕ = λ n. descriptors_text ring c.args.machine.now.present.base
    c.args.machine.now.present.memory c.args.from n in
    let outside = c.is_outside-outside.result in
    record {
      writes = Writes-more _ _ _ _ (ring_line ring outside) (lines c.shown-shown.result) _
          c.in_ok-write_ring_line.ensures.writes c.write_descriptors.ensures.writes
          (ap (λ (o : Bool). ring_line ring o ++ lines (shown ring o c.args.from c.args.most))
          (sym c.is_outside-outside.ensures)
          ∙ ap (λ (n : ℕ). ring_line ring outside ++ lines n) (sym c.shown-shown.ensures.shown));
    }
