-- What pages, some of which are made, mean as octets: those of one table, and behind them those of directories.
use Rattle.std.specs.Prelude.{
  ◌≡◌,
  ◌+◌,
  ◌*◌,
  ◌/◌,
  ◌≤◌,
  ℕ,
  Bool,
  true,
  false,
  List,
  [],
  ◌∷◌,
  ◌++◌,
  length,
  take,
  drop,
  slice_index_or,
  Option,
  Some,
  None,
  refl,
  ◌<◌,
}
use Rattle.std.specs.Coded.{Coded, code_by, coded×, coded_list, coded_ℕ, coded_bool}
use Rattle.std.specs.List.{flat_map}
use Rattle.std.specs.Global.{Box}
use Rattle.em_mem.specs.declared.TheConstants.{
  PAGE_OCTETS,
  PARTS,
  TABLE_OCTETS,
  DIRECTORY_OCTETS,
  DIRECTORY_PAGES,
}
use Rattle.em_mem.specs.Memory.{Cells, IsMemoryRange, zeros, none_made}

-- each item of a list is so
abbrev pub AllAre : {A : Type 0} → (A → Type 0) → List A → Type 0
AllAre P [] = Unit {0}
AllAre P (x ∷ xs) = P x × AllAre P xs

-- item k of a list of truths is true
abbrev pub IsAt : List Bool → ℕ → Type 0
IsAt made k = slice_index_or made k false ≡ true

-- the n items from k on
abbrev pub part_of : {A : Type 0} → List A → ℕ → ℕ → List A
part_of xs k n = take n (drop k xs)

-- the list with the items d from k on
abbrev pub put_in : {A : Type 0} → List A → ℕ → List A → List A
put_in xs k d = take k xs ++ (d ++ drop (k + length d) xs)

-- the truths with item k true
abbrev pub mark : List Bool → ℕ → List Bool
mark made k = put_in made k (true ∷ [])

-- ---- a page, or none where it is not made
abbrev pub Page : Type 0
Page = Option (Box (List ℕ))

-- the octets of a page that is not made
abbrev pub zero_page : List ℕ
zero_page = zeros PAGE_OCTETS

-- the octets of a page
abbrev pub page_octets : Page → List ℕ
page_octets None = zero_page
page_octets (Some page) = page.value

-- whether a page is made
abbrev pub is_made : Page → Bool
is_made None = false
is_made (Some page) = true

abbrev pub page_made : Page → List Bool
page_made page = is_made page ∷ []

abbrev pub IsWholePage : Page → Type 0
IsWholePage page = length (page_octets page) ≡ PAGE_OCTETS

-- ---- pages, and a table of pages, or none where it is not made
abbrev pub pages_octets : List Page → List ℕ
pages_octets pages = flat_map page_octets pages

abbrev pub pages_made : List Page → List Bool
pages_made pages = flat_map page_made pages

abbrev pub Table : Type 0
Table = Option (Box (List Page))

abbrev pub table_octets : Table → List ℕ
table_octets None = zeros TABLE_OCTETS
table_octets (Some table) = pages_octets table.value

abbrev pub table_made : Table → List Bool
table_made None = none_made PARTS
table_made (Some table) = pages_made table.value

abbrev pub IsWholeTable : Table → Type 0
IsWholeTable None = Unit {0}
IsWholeTable (Some table) = (length table.value ≡ PARTS) × AllAre IsWholePage table.value

-- ---- a directory of tables, or none where it is not made
abbrev pub tables_octets : List Table → List ℕ
tables_octets tables = flat_map table_octets tables

abbrev pub tables_made : List Table → List Bool
tables_made tables = flat_map table_made tables

abbrev pub Directory : Type 0
Directory = Option (Box (List Table))

abbrev pub directory_octets : Directory → List ℕ
directory_octets None = zeros DIRECTORY_OCTETS
directory_octets (Some directory) = tables_octets directory.value

abbrev pub directory_made : Directory → List Bool
directory_made None = none_made DIRECTORY_PAGES
directory_made (Some directory) = tables_made directory.value

abbrev pub IsWholeDirectory : Directory → Type 0
IsWholeDirectory None = Unit {0}
IsWholeDirectory (Some directory) = (length directory.value ≡ PARTS) × AllAre IsWholeTable directory.value

-- ---- directories
abbrev pub directories_octets : List Directory → List ℕ
directories_octets directories = flat_map directory_octets directories

abbrev pub directories_made : List Directory → List Bool
directories_made directories = flat_map directory_made directories

-- ---- all of them
-- the octets of pages, and for each page whether it is made
pub record Pages : Type 0 where
  pub octets : List ℕ
  pub made : List Bool

-- they are stored as the pair of their fields
abbrev pub pages_code : Coded Pages
pages_code = code_by (List ℕ × List Bool) (coded× (coded_list coded_ℕ) (coded_list coded_bool))
    (λ s. (s.octets, s.made)) (λ p. record { octets = p.0; made = p.1 }) (λ _. refl)

-- the pages of a table, and behind them those of directories
abbrev pub all_of : List Page → List Directory → Pages
all_of first directories = record {
  octets = pages_octets first ++ directories_octets directories;
  made = pages_made first ++ directories_made directories;
}

-- whole pages and directories, and the page of zeros
pub record IsStore (first : List Page) (directories : List Directory) (zeros : List ℕ) : Type 0 where
  pub whole : AllAre IsWholePage first
  pub whole_directories : AllAre IsWholeDirectory directories
  pub zero : zeros ≡ zero_page

-- so many pages or more, of which none is made
pub record IsUnmade (least : ℕ) (s : Pages) : Type 0 where
  pub count : ℕ
  pub enough : least ≤ count
  pub octets : s.octets ≡ zeros (PAGE_OCTETS * count)
  pub made : s.made ≡ none_made count

-- ---- memory
-- what is so from a base on: the pages of the size, behind those that are no memory
abbrev pub cells_of : ℕ → ℕ → Pages → Cells
cells_of base size s = record {
  base = base;
  octets = zeros base ++ take size s.octets;
  made = none_made (base / PAGE_OCTETS) ++ take (size / PAGE_OCTETS) s.made;
}

-- there are pages enough, each of which is whole
pub record IsMemory (base size : ℕ) (s : Pages) : Type 0 where
  pub range : IsMemoryRange base size
  pub room : size ≤ length s.octets
  pub pages : length s.octets ≡ PAGE_OCTETS * length s.made

-- page p, counted from address 0 on, is one of memory
pub record IsPageFrom (c : Cells) (p : ℕ) : Type 0 where
  pub from : c.base / PAGE_OCTETS ≤ p
  pub to : p < length c.made
