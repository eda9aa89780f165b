use Rattle.std.proofs.Common.{◌≡◌, Bool, true, false, List, ℕ, refl, subst, ne_eqb}
use Rattle.std.specs.Prelude.{if◌then◌else◌}
use Rattle.em_text.specs.Writer.{Writes}
use Rattle.em_inspect.specs.RingText.{empty_line, full_line}
use Rattle.em_inspect.proofs.ring_lines.write_ring_line.Goals as goal

-- where a test does not hold
of_false : (test : Bool) (text other : List ℕ) → test ≡ false → other ≡ (if test then text else other)
of_false true text other h = cc
of_false false text other h = refl

pub returns : goal.returns
returns g c =
    let contents = g.W.Write.contents in
    let ring = c.args.ring.now in
    let full : Writes (contents c.args.writer.now) (contents c.write_line.new.writer) c.write_line.result
    (full_line ring c.args.outside)
    = rw (
      c.side_word.ensures,
      c.from.ensures,
      c.from-2.ensures,
      c.from-3.ensures,
      c.place_word.ensures,
      c.from-4.ensures,
      c.place_word-2.ensures,
      c.enabled_word.ensures,
      c.memory_word.ensures,
    ) at c.write_line.ensures.writes in
    record {
      writes = subst (λ (text : List ℕ).
          Writes (contents c.args.writer.now) (contents c.write_line.new.writer) c.write_line.result text)
          (of_false _ (empty_line ring) (full_line ring c.args.outside) (ne_eqb ring.setup.count 0 c.if-ring-eq0.false)) full;
    }
