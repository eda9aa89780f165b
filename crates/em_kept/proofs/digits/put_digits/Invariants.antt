use Rattle.std.proofs.Common.{◌≡◌, ◌+◌, ◌-◌, ◌^◌, ◌<◌, ◌≤◌, ◌++◌, true, length, drop}
use Rattle.std.specs.Fmt.{digits_onto}
use Rattle.em_kept.specs.Digits.{number_digits}
use Rattle.em_kept.proofs.digits.put_digits.Given as goal

-- the digits of what is left are those that are still to come
abbrev pub invariant-loop-left : goal.invariant-loop-left
invariant-loop-left l =
    (l.at < l.end) × (l.end ≤ l.at + 16) × (length l.line ≡ length l.fn.line) × (l.left < 16 ^ (l.at + 16 - l.end + 1))
    × (digits_onto (65 + l.at - l.end) 16 true l.left (drop (l.at + 1) l.line) ≡ number_digits l.number ++ drop l.end l.fn.line)

abbrev pub decreases-loop-left : goal.decreases-loop-left
decreases-loop-left l = l.left
