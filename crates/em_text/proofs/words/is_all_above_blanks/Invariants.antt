use Rattle.std.proofs.Common.{◌≡◌, ℕ, ◌+◌, ◌<◌, true, slice_index}
use Rattle.em_text.proofs.words.is_all_above_blanks.Given as goal

-- each octet so far is, where it says so
abbrev pub invariant-loop-i : goal.invariant-loop-i
invariant-loop-i g l = l.above ≡ true → (k : ℕ) → k < l.i → 32 < slice_index l.line (l.from + k)
