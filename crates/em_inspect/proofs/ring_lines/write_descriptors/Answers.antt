use Rattle.std.proofs.Common.{ℕ, ◌+◌, List}
use Rattle.std.proofs.lemmas.Result.{MatchResult-from_err}
use Rattle.em_inspect.specs.RingText.{line_of_index}
use Rattle.em_inspect.proofs.LineLemmas.{Appends-next, WritesPart-next}
use Rattle.em_inspect.proofs.ring_lines.write_descriptors.Goals as goal

pub returns-in_err-write_descriptor_at : goal.returns-in_err-write_descriptor_at
returns-in_err-write_descriptor_at g c =
    let line : ℕ → List ℕ
    =
    λ k. line_of_index c.args.ring.now c.args.machine.now.present.base c.args.machine.now.present.memory
    (c.args.from + k) in
    record {
      writes = MatchResult-from_err _ _ _ c.from_residual.ensures.0 (λ _.
          WritesPart-next line c.args.shown c.loop-k.k c.loop-k-test.true c.loop-k.invariant
          c.in_err-write_descriptor_at.ensures.writes);
    }

pub loop-k-preserved : goal.loop-k-preserved
loop-k-preserved g c =
    let line : ℕ → List ℕ
    =
    λ k. line_of_index c.args.ring.now c.args.machine.now.present.base c.args.machine.now.present.memory
    (c.args.from + k) in
    Appends-next _ _ _ line c.loop-k.k c.loop-k.invariant c.in_ok-write_descriptor_at.ensures.writes
