-- Old octets of many records in one ring, those of the newest record first.
use Rattle.std.specs.Prelude.{◌≡◌, ◌≤◌, ℕ, ◌+◌, ◌-◌, nat_le, nat_lt, if◌then◌else◌, List, ◌++◌, length, take}
use Rattle.em_mem.specs.Ring.{turn}

-- the octets as they are seen from a place of the ring on, and that place
pub record OldOctets : Type 0 where
  pub top : ℕ
  pub octets : List ℕ

-- n places before place k, where what is before the beginning is the end
abbrev pub back_by : ℕ → ℕ → ℕ → ℕ
back_by size n k = if nat_le n k then k - n else k + size - n

-- n places behind place k, where what is past the end is the beginning
abbrev pub forward_by : ℕ → ℕ → ℕ → ℕ
forward_by size n k = if nat_lt (k + n) size then k + n else k + n - size

-- with a record's octets before the others; the oldest go, for which no room is left
abbrev pub saved : List ℕ → OldOctets → OldOctets
saved d o = record {
  top = back_by (length o.octets) (length d) o.top;
  octets = d ++ take (length o.octets - length d) o.octets;
}

-- seen n places further on
abbrev pub given_up : ℕ → OldOctets → OldOctets
given_up n o = record { top = forward_by (length o.octets) n o.top; octets = turn n o.octets }

-- seen from place k on
abbrev pub seen_from : ℕ → OldOctets → OldOctets
seen_from k o = record { top = k; octets = turn (back_by (length o.octets) o.top k) o.octets }

-- n octets were saved, which are the first ones then
pub record Saves (n : ℕ) (old new : OldOctets) : Type 0 where
  pub room : n ≤ length old.octets
  pub saved : new ≡ saved (take n new.octets) old

-- the same, where there was room; where there was none, it was made
pub record Keeps (n : ℕ) (old new : OldOctets) : Type 0 where
  pub room : n ≤ length new.octets
  pub saves : n ≤ length old.octets → Saves n old new

-- the same in a longer ring: those that lay before the end of the other are the first ones still
pub record IsLonger (old new : OldOctets) (size : ℕ) : Type 0 where
  pub top : new.top ≡ old.top
  pub room : length new.octets ≡ size
  pub first : (n : ℕ) → old.top + n ≤ length old.octets → take n new.octets ≡ take n old.octets
