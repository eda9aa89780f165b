use Rattle.std.proofs.Common.{◌-◌, ◌≤◌, ◌++◌, take, drop, length, arith, sym, ap, ◌∙◌}
use Rattle.std.proofs.lemmas.List.{take_rest}
use Rattle.std.proofs.lemmas.Grind.{common_steps}
use Rattle.std.proofs.Math.Seq.{take-add}
use Rattle.em_text.proofs.WritingLemmas.{Appends-more}
use Rattle.em_text.proofs.writer.write_in_parts.Goals as goal

pub loop-done-preserved : goal.loop-done-preserved
loop-done-preserved g c =
    let text = c.args.text.now in
    let rest = drop c.loop-done.done text in
    let bound : c.in-Ok.count ≤ length (take (length text - c.loop-done.done) rest) = c.in-Ok.ensures.bound in
    let piece = take c.in-Ok.count (take (length text - c.loop-done.done) rest) in
    let all = take-add c.loop-done.done c.in-Ok.count text
    ∙ ap (λ l. take c.loop-done.done text ++ take c.in-Ok.count l) (sym (take_rest text c.loop-done.done)) in
    record {
      within = grind (arith, common_steps);
      written = Appends-more _ _ _ (take c.loop-done.done text) piece _ c.loop-done.invariant.written
          c.in-Ok.ensures.bytes all;
    }
