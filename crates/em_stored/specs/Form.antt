-- Numbers, octets and lists as they are stored: each has one form alone.
use Rattle.std.specs.Prelude.{ℕ, zero, suc, Bool, true, ◌==◌, ◌&&◌, if◌then◌else◌, List, [], ◌∷◌, ◌++◌}
use Rattle.std.specs.Prelude.{length, take, drop, Option, Some, None}
use Rattle.std.specs.List.{flat_map}
use Rattle.std.specs.Int.{w32, w64, to_le_bytes}
use Rattle.em_mem.specs.Memory.{page_size}
use Rattle.em_rx.specs.Frame.{Frame}

-- a number in four octets, the low one first
unfoldable pub word : ℕ → List ℕ
word n = to_le_bytes w32 n

-- a number in eight octets, the low one first
unfoldable pub number : ℕ → List ℕ
number n = to_le_bytes w64 n

-- numbers in four octets each
abbrev pub words : List ℕ → List ℕ
words ns = flat_map word ns

-- octets, and before them how many they are
abbrev pub counted : List ℕ → List ℕ
counted octets = number (length octets) ++ octets

-- things in their form, and before them how many they are
abbrev pub listed : {A : Type 0} → (A → List ℕ) → List A → List ℕ
listed form things = number (length things) ++ flat_map form things

-- a tag has 16 bits; 65,536 says that there is none
abbrev pub tag_number : Option ℕ → ℕ
tag_number None = 0x1_0000
tag_number (Some tag) = tag

-- a frame of the FIFO: its tag, and its octets
abbrev pub frame_form : Frame → List ℕ
frame_form frame = word (tag_number frame.tag) ++ counted frame.octets

-- all octets are zero
abbrev pub are_zero : List ℕ → Bool
are_zero [] = true
are_zero (octet ∷ octets) = octet == 0 && are_zero octets

-- a page of memory: 0 where all its octets are zero, and else 1 and the octets
abbrev pub page_form : List ℕ → List ℕ
page_form page = if are_zero page then 0 ∷ [] else 1 ∷ page

-- so many pages, one after another
abbrev pub pages_form : ℕ → List ℕ → List ℕ
pages_form zero octets = []
pages_form (suc n) octets = page_form (take page_size octets) ++ pages_form n (drop page_size octets)
