-- Octets of guest memory, and which of its pages are made.
use Rattle.std.specs.Prelude.{
  ◌≡◌,
  ℕ,
  ◌+◌,
  ◌*◌,
  ◌/◌,
  ◌%◌,
  ◌<◌,
  ◌≤◌,
  ◌⊎◌,
  ◌||◌,
  nat_lt,
  Bool,
  true,
  false,
  List,
  ◌++◌,
  length,
  take,
  drop,
  replicate,
  slice_index_or,
  refl,
}
use Rattle.std.specs.Coded.{Coded, code_by, coded×, coded_list, coded_ℕ, coded_bool}

-- what guest memory keeps: where it begins, the octets from address 0 up to its end, and for each page from address 0 on
-- whether it is made. What is listed before the base is no memory, and zero
pub record Cells : Type 0 where
  pub base : ℕ
  pub octets : List ℕ
  pub made : List Bool

-- cells are stored as the tuple of their fields
abbrev pub cells_code : Coded Cells
cells_code =
    code_by (ℕ × (List ℕ × List Bool)) (coded× coded_ℕ (coded× (coded_list coded_ℕ) (coded_list coded_bool)))
    (λ c. (c.base, (c.octets, c.made))) (λ p. record { base = p.0; octets = p.1.0; made = p.1.1 }) (λ _. refl)

-- the octets of a page
abbrev pub page_size : ℕ
page_size = 4096

-- a size that guest memory from address 0 on can have: whole pages, one at least, and 16 MiB at most
abbrev pub IsMemorySize : ℕ → Type 0
IsMemorySize size = (page_size ≤ size) × (size ≤ 16777216) × (size % page_size ≡ 0)

-- where guest memory can lie: whole pages from a whole page on, one at least, and up to address 2^40
pub record IsMemoryRange (base size : ℕ) : Type 0 where
  pub least : page_size ≤ size
  pub end : base + size ≤ 1099511627776
  pub whole_size : size % page_size ≡ 0
  pub whole_base : base % page_size ≡ 0

-- so many zeros
unfoldable pub zeros : ℕ → List ℕ
zeros n = replicate n 0

-- for so many pages that they are not made
unfoldable pub none_made : ℕ → List Bool
none_made n = replicate n false

-- memory of this size from a base on, all zero, with no page made
abbrev pub fresh : ℕ → ℕ → Cells
fresh base size = record {
  base = base;
  octets = zeros (base + size);
  made = none_made ((base + size) / page_size);
}

-- the range of n octets from a on ends in a list
abbrev pub EndsIn : List ℕ → ℕ → ℕ → Type 0
EndsIn octets a n = a + n ≤ length octets

-- it lies in memory that begins at a base
pub record LiesIn (base : ℕ) (octets : List ℕ) (a n : ℕ) : Type 0 where
  pub from : base ≤ a
  pub to : EndsIn octets a n

-- it leaves that memory
abbrev pub leaves : ℕ → List ℕ → ℕ → ℕ → Bool
leaves base octets a n = nat_lt a base || nat_lt (length octets) (a + n)

-- it lies in the memory of these cells
abbrev pub IsHeld : Cells → ℕ → ℕ → Type 0
IsHeld c a n = LiesIn c.base c.octets a n

-- the range of n octets from a on lies in one page
abbrev pub IsInOnePage : ℕ → ℕ → Type 0
IsInOnePage a n = a % page_size + n ≤ page_size

-- page p is made
abbrev pub IsPageMade : Cells → ℕ → Type 0
IsPageMade c p = slice_index_or c.made p false ≡ true

-- each page of the range of n octets from a on is made
abbrev pub IsMade : Cells → ℕ → ℕ → Type 0
IsMade c a n = (i : ℕ) → i < n → IsPageMade c ((a + i) / page_size)

-- page p has an octet of the range of n octets from a on
abbrev pub IsPageOf : ℕ → ℕ → ℕ → Type 0
IsPageOf p a n = (0 < n) × (a < page_size * p + page_size) × (page_size * p < a + n)

-- the n octets from a on
abbrev pub part : List ℕ → ℕ → ℕ → List ℕ
part octets a n = take n (drop a octets)

-- the octets with those of d from a on
abbrev pub put : List ℕ → ℕ → List ℕ → List ℕ
put octets a d = take a octets ++ (d ++ drop (a + length d) octets)

-- old octets, and the address where they lay
pub record Patch : Type 0 where
  pub at : ℕ
  pub octets : List ℕ

-- the patch lies in memory, in pages that are made
pub record Fits (c : Cells) (p : Patch) : Type 0 where
  pub held : IsHeld c p.at (length p.octets)
  pub made : IsMade c p.at (length p.octets)

-- the cells with the patch put back: pages that are made stay made
abbrev pub undo : Cells → Patch → Cells
undo c p = record c { octets = put c.octets p.at p.octets }

-- the patch takes the change from the old cells to the new ones back
pub record Reverses (old new : Cells) (p : Patch) : Type 0 where
  pub fits : Fits new p
  pub restores : undo new p ≡ old

-- d is c, but that d may have more pages made
pub record MorePages (c d : Cells) : Type 0 where
  pub base : d.base ≡ c.base
  pub octets : d.octets ≡ c.octets
  pub made : (p : ℕ) → IsPageMade c p → IsPageMade d p

-- the pages that d has made and c has not are pages of the range of n octets from a on
abbrev pub MakesOnly : Cells → Cells → ℕ → ℕ → Type 0
MakesOnly c d a n = (p : ℕ) → IsPageMade d p → IsPageMade c p ⊎ IsPageOf p a n
