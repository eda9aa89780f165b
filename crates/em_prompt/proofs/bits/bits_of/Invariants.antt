use Rattle.std.proofs.Common.{◌≡◌, length}
use Rattle.std.specs.List.{slice_split}
use Rattle.em_prompt.specs.Bits.{is_bar, bits_of, bits_with}
use Rattle.em_prompt.proofs.bits.bits_of.Given as goal

-- the bits of the word are those so far with those of what is left
abbrev pub invariant-loop-bit : goal.invariant-loop-bit
invariant-loop-bit l = bits_of l.fn.reg l.fn.word ≡ bits_with l.fn.reg l.value (slice_split is_bar l.rest)

abbrev pub decreases-loop-bit : goal.decreases-loop-bit
decreases-loop-bit l = length l.rest
