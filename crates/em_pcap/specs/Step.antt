-- How far a step leads.
use Rattle.std.specs.Prelude.{ℕ, ◌+◌, ◌<◌, ◌≤◌}
use Rattle.em_pcap.specs.declared.form.Step.{Step}
use Rattle.em_pcap.specs.declared.form.Step.TheVariants.{Ends, Stops, Gives, Opens, Adds, Skips}

-- one octet or more, of so many
abbrev pub IsPart : ℕ → ℕ → Type 0
IsPart most len = (0 < len) × (len ≤ most)

-- what stands there has an octet or more, and no more than so many; and so a packet in it
abbrev pub IsWithin : ℕ → Step → Type 0
IsWithin most Ends = Unit {0}
IsWithin most (Stops fault) = Unit {0}
IsWithin most (Gives found) = IsPart most found.len × (found.at + found.captured ≤ most)
IsWithin most (Opens len form) = IsPart most len
IsWithin most (Adds len interface) = IsPart most len
IsWithin most (Skips len) = IsPart most len
