-- The numbers that words write in decimal, by what they count.
use Rattle.std.specs.Prelude.{ℕ}
use Rattle.em_prompt.specs.declared.number.Number.{Number}
use Rattle.em_prompt.specs.declared.number.Number.TheVariants.{Peeked, Watched, Packets, Count, Line, Event, Index}
use Rattle.em_prompt.specs.declared.number.Number.TheVariants.{Word}

-- the least that it may be
abbrev pub least : Number → ℕ
least Peeked = 1
least Watched = 1
least Packets = 0
least Count = 1
least Line = 1
least Event = 0
least Index = 0
least Word = 0

-- the most that it may be
abbrev pub most : Number → ℕ
most Peeked = 16_384
most Watched = 16
most Packets = 1024
most Count = 65_536
most Line = 9_999_999
most Event = 9_999_999
most Index = 9_999_999
most Word = 31
