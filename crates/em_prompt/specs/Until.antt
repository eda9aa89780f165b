-- Where a run ends.
use Rattle.std.specs.Prelude.{ℕ}
use Rattle.em_prompt.specs.declared.typed.Until.{Until as Coded}
use Rattle.em_prompt.specs.declared.typed.Until.TheVariants as coded
use Rattle.em_prompt.specs.Watch as watch
use Rattle.em_prompt.specs.Watch.{Watch}

pub data Until : Type 0 where
  -- where an event is refused
  refused : Until
  -- where a frame is dropped
  dropped : Until
  -- where an answer is another one than the line expects
  differs : Until
  -- where a line has a warning
  warning : Until
  -- before the line of this number
  line : ℕ → Until
  -- where this changes
  changes : Watch → Until

-- what the code says, with the number of octets alone
abbrev pub plain : Coded → Until
plain coded.Refused = refused
plain coded.Dropped = dropped
plain coded.Differs = differs
plain coded.Warning = warning
plain (coded.Line n) = line n
plain (coded.Changes w) = changes (watch.plain w)
