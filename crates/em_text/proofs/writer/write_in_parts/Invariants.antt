use Rattle.std.proofs.Common.{length, ◌-◌, ◌≤◌, take}
use Rattle.std.specs.Io.KnownBytes.{Appends}
use Rattle.em_text.proofs.writer.write_in_parts.Given as goal

-- the front that was written so far
abbrev pub invariant-loop-done : goal.invariant-loop-done
invariant-loop-done g l =
    let contents = g.W.Write.contents in
    record {
      within : l.done ≤ length l.text;
      written : Appends (contents l.fn.writer) (contents l.writer) (take l.done l.text);
    }

abbrev pub decreases-loop-done : goal.decreases-loop-done
decreases-loop-done g l = length l.text - l.done
