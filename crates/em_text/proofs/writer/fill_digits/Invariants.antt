use Rattle.std.proofs.Common.{◌≡◌, ◌≤◌, ◌*◌, ◌-◌, length}
use Rattle.em_text.specs.Writer.{AreDigits}
use Rattle.em_text.proofs.writer.fill_digits.Given as goal

-- the digits so far, and those of the octets behind, are the digits of all
abbrev pub invariant-loop-done : goal.invariant-loop-done
invariant-loop-done l =
    record {
      within : l.done ≤ length l.octets;
      long : length l.digits ≡ 2 * length l.octets;
      are : AreDigits l.octets l.digits l.done;
    }

abbrev pub decreases-loop-done : goal.decreases-loop-done
decreases-loop-done l = length l.octets - l.done

abbrev pub invariant-loop-i : goal.invariant-loop-i
invariant-loop-i l = AreDigits l.octets l.digits l.i
