use Rattle.std.proofs.Common.{◌≡◌, ◌+◌, ◌*◌, ◌%◌, ◌<◌, ℕ, length}
use Rattle.std.specs.Prelude.{slice_index}
use Rattle.em_text.proofs.numbers.decode.Given as goal

-- the octets so far, whether they are of digits or not
abbrev pub invariant-loop-i : goal.invariant-loop-i
invariant-loop-i g l =
    record {
      long : length l.octets ≡ length l.fn.octets;
      before : (k : ℕ) → k < l.done → slice_index l.octets k ≡ slice_index l.fn.octets k;
      are : (k : ℕ) → k < l.i → slice_index l.octets (l.done + k)
          ≡ (slice_index l.lanes (2 * k) * 16 % 256 + slice_index l.lanes (2 * k + 1)) % 256;
    }
