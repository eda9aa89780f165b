use Rattle.std.proofs.Common.{◌≡◌, ℕ, ◌-◌, subst, sym, arith}
use Rattle.std.specs.List.{flat_map, range_with_len}
use Rattle.std.specs.Io.KnownBytes.{Appends}
use Rattle.std.proofs.lemmas.Result.{MatchResult-from_err}
use Rattle.em_text.proofs.WritingLemmas.{Appends-more, Appends-same}
use Rattle.em_debugger.specs.Excerpt.{numbered_line_text}
use Rattle.em_debugger.proofs.ExcerptLaws.{WritesPart-text, texts-next, texts_to}
use Rattle.em_debugger.proofs.debugger.Debugger.write_numbered_lines.Goals as goal

pub loop-line-init : goal.loop-line-init
loop-line-init g c =
    let contents = g.W.Write.contents in
    let none : c.args.first - c.args.first ≡ 0 = omega arith in
    subst (λ (n : ℕ). Appends (contents c.args.writer.now) (contents c.args.writer.now)
    (flat_map (numbered_line_text c.args.self.now c.args.here) (range_with_len c.args.first n))) (sym none)
    (Appends-same (contents c.args.writer.now))

pub loop-line-preserved : goal.loop-line-preserved
loop-line-preserved g c =
    Appends-more _ _ _ _ _ _ c.loop-line.invariant c.in_ok-write_numbered_line.ensures.writes
    (texts-next (numbered_line_text c.args.self.now c.args.here) c.args.first c.loop-line.line c.loop-line.auto.line)

pub returns-in_err-write_numbered_line : goal.returns-in_err-write_numbered_line
returns-in_err-write_numbered_line g c = record {
  writes = MatchResult-from_err _ _ _ c.from_residual.ensures.0 (λ _.
      WritesPart-text _ _ _ (numbered_line_text c.args.self.now c.args.here) c.args.first c.loop-line.line c.args.end
      c.loop-line.auto.line c.loop-line-test.true c.loop-line.invariant
      c.in_err-write_numbered_line.ensures.writes);
}

pub returns : goal.returns
returns g c =
    let contents = g.W.Write.contents in
    let all : c.loop-line.line ≡ c.args.end = omega arith in
    record {
      writes = subst (λ (k : ℕ). Appends (contents c.args.writer.now) (contents c.loop-line.writer)
          (texts_to (numbered_line_text c.args.self.now c.args.here) c.args.first k)) all c.loop-line.invariant;
    }
