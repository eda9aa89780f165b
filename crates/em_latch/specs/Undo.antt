-- How a record keeps growths, and how many octets they take.
use Rattle.std.specs.Prelude.{
  ◌≡◌,
  ◌+◌,
  ◌-◌,
  ◌/◌,
  ◌%◌,
  ◌^◌,
  ℕ,
  ◌<◌,
  ◌≤◌,
  ◌==◌,
  nat_lt,
  if◌then◌else◌,
  zero,
  suc,
  List,
  [],
  ◌∷◌,
  slice_index,
}
use Rattle.em_latch.specs.declared.undo.TheConstants.{MOST_OCTETS, WORDS}
use Rattle.em_latch.specs.Latches.{Growth}
use Rattle.em_latch.specs.Storage.{offsets}

-- how many octets a growth takes: an octet of its own where it is 0 or 1, and two or four besides where it is more
abbrev pub octets_for : ℕ → ℕ
octets_for by = if nat_lt by 2 then 1 else if nat_lt by 0x1_0000 then 3 else 5

abbrev pub octets_of : List Growth → ℕ
octets_of [] = 0
octets_of (g ∷ gs) = octets_for g.by + octets_of gs

-- ---- the number of a record: the growths, the newest the lowest. Each begins with an octet: a place, counted from 1 on,
-- and above it the width of the growth, 0 to 3. A width of 0 or 1 is the growth, and behind one of 2 or 3 it stands in two
-- octets or four.
abbrev pub octets_by : ℕ → ℕ
octets_by width = if nat_lt width 2 then 0 else 2 ^ (width - 1)

-- how many values they have
abbrev pub range_by : ℕ → ℕ
range_by width = 256 ^ octets_by width

-- the growth of a width, with what stands behind its octet
abbrev pub grown_by : ℕ → ℕ → ℕ
grown_by width behind = if nat_lt width 2 then width else behind % range_by width

abbrev pub newest : ℕ → ℕ → Growth
newest octet behind = record { at = slice_index offsets (octet % 64 - 1); by = grown_by (octet / 64) behind }

-- at most n growths, the newest first
unfoldable pub growths_of : ℕ → ℕ → List Growth
growths_of zero growths = []
growths_of (suc n) growths =
    if growths % 256 == 0 then []
    else newest (growths % 256) (growths / 256) ∷ growths_of n (growths / 256 / range_by (growths % 256 / 64))

-- the newest growth is of a place of the latches, and takes as few octets as it needs
pub record IsKept (octet behind : ℕ) : Type 0 where
  pub some : 0 < octet % 64
  pub place : octet % 64 ≤ WORDS
  pub least : octets_for (grown_by (octet / 64) behind) ≡ octets_by (octet / 64) + 1

-- so are n growths, and there are no others
abbrev pub AreKept : ℕ → ℕ → Type 0
AreKept zero growths = growths ≡ 0
AreKept (suc n) growths =
    IsKept (growths % 256) (growths / 256) × AreKept n (growths / 256 / range_by (growths % 256 / 64))

pub record IsRecord (growths : ℕ) : Type 0 where
  pub count : ℕ
  pub few : count ≤ MOST_OCTETS
  pub kept : AreKept count growths
