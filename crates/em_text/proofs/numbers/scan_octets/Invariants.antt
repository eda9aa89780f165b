use Rattle.std.proofs.Common.{◌≡◌, ◌*◌, ◌-◌, ◌≤◌, length}
use Rattle.em_text.specs.Numbers.{ArePairs}
use Rattle.em_text.proofs.numbers.scan_octets.Given as goal

abbrev pub invariant-loop-octets : goal.invariant-loop-octets
invariant-loop-octets l =
    record {
      long : length l.octets ≡ length l.fn.octets;
      within : 2 * l.done ≤ length l.text;
      pairs : ArePairs l.text l.octets 0 l.done;
    }

abbrev pub decreases-loop-octets : goal.decreases-loop-octets
decreases-loop-octets l = length l.text - 2 * l.done

abbrev pub invariant-loop-done : goal.invariant-loop-done
invariant-loop-done l =
    record {
      long : length l.octets ≡ length l.fn.octets;
      within : 2 * l.done ≤ length l.text;
      pairs : ArePairs l.text l.octets 0 l.done;
    }

abbrev pub decreases-loop-done : goal.decreases-loop-done
decreases-loop-done l = length l.text - 2 * l.done
