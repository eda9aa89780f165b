use Rattle.std.proofs.Common.{◌≡◌, ◌-◌, ◌^◌, ◌<◌, ◌≤◌, ℕ, take, true, length, get_or}
use Rattle.std.specs.Char.{is_digit}
use Rattle.std.specs.Str.Parse.{digits_value}
use Rattle.em_text.proofs.numbers.scan_number.Given as goal

-- the octets so far are digits, and `value` is their number, unless they are too many
abbrev pub invariant-loop-len : goal.invariant-loop-len
invariant-loop-len l =
    record {
      within : l.len ≤ length l.text;
      digits : (k : ℕ) → k < l.len → is_digit (get_or l.text k 0) l.base ≡ true;
      small : l.len ≤ l.most → l.value < l.base ^ l.len;
      number : l.len ≤ l.most → l.value ≡ digits_value l.base (take l.len l.text);
    }

abbrev pub decreases-loop-len : goal.decreases-loop-len
decreases-loop-len l = length l.text - l.len
