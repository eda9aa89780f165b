use Rattle.std.proofs.Common.{◌≡◌, ◌∙◌, ℕ, ◌<◌, ◌++◌, length, ap, subst, length-append, sym}
use Rattle.std.proofs.lemmas.Result.{MatchResult-from_err}
use Rattle.std.specs.Int.{div_ceil}
use Rattle.em_inspect.specs.Lines.{line_at}
use Rattle.em_inspect.proofs.LineLemmas.{Appends-next, WritesPart-next}
use Rattle.em_inspect.proofs.lines.write_lines_in_two.Goals as goal

pub returns-in_err-write_line_at : goal.returns-in_err-write_line_at
returns-in_err-write_line_at g c =
    let octets = c.args.front.now ++ c.args.back.now in
    let k = c.loop-line.line in
    let size : c.div_ceil-line-end.result ≡ div_ceil (length octets) 16
    = c.div_ceil-line-end.ensures
    ∙ ap (λ (n : ℕ). div_ceil n 16) (sym (length-append c.args.front.now c.args.back.now)) in
    let below : k < div_ceil (length octets) 16 = subst (λ (n : ℕ). k < n) size c.loop-line-test.true in
    record {
      writes = MatchResult-from_err _ _ _ c.from_residual.ensures.0 (λ _.
          WritesPart-next (line_at c.args.address octets) (div_ceil (length octets) 16) k below c.loop-line.invariant
          c.in_err-write_line_at.ensures.writes);
    }

pub loop-line-preserved : goal.loop-line-preserved
loop-line-preserved g c =
    let octets = c.args.front.now ++ c.args.back.now in
    Appends-next _ _ _ (line_at c.args.address octets) c.loop-line.line c.loop-line.invariant
    c.in_ok-write_line_at.ensures.writes
