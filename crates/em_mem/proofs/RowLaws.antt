-- The three rows: pages, tables and directories.
use Rattle.std.proofs.Common.{
  ◌≡◌,
  ℕ,
  ◌+◌,
  ◌*◌,
  ◌-◌,
  ◌≤◌,
  ◌⊎◌,
  inl,
  inr,
  zero,
  suc,
  false,
  List,
  ◌++◌,
  length,
  get_or,
  take,
  replicate,
  Some,
  None,
  refl,
  sym,
  ap,
  ◌∙◌,
  arith,
}
use Rattle.std.specs.Prelude.{Result, Ok, Err, OnOk, OnErr}
use Rattle.std.proofs.lemmas.List.{length-replicate, replicate-append-replicate, drop-replicate, take-replicate}
use Rattle.std.proofs.Math.Seq.{take-length}
use Rattle.std.proofs.lemmas.Bool.{false≢true}
use Rattle.em_mem.specs.declared.TheConstants.{
  PAGE_OCTETS,
  PARTS,
  TABLE_OCTETS,
  DIRECTORY_OCTETS,
  DIRECTORY_PAGES,
}
use Rattle.em_mem.specs.Memory.{zeros, none_made}
use Rattle.em_mem.specs.Pages.{
  AllAre,
  IsAt,
  Page,
  Table,
  Directory,
  page_octets,
  page_made,
  pages_octets,
  pages_made,
  table_octets,
  table_made,
  tables_octets,
  tables_made,
  directory_octets,
  directory_made,
  directories_octets,
  directories_made,
  IsWholePage,
  IsWholeTable,
  IsWholeDirectory,
  part_of,
}
use Rattle.em_mem.proofs.LevelLaws.{length_level, flat_level}

-- ---- what a new memory holds
pub zeros_are : (n : ℕ) → zeros n ≡ replicate n 0
unfolding zeros
zeros_are n = refl

pub none_are : (n : ℕ) → none_made n ≡ replicate n false
unfolding none_made
none_are n = refl

pub length-zeros : (n : ℕ) → length (zeros n) ≡ n
length-zeros n = ap length (zeros_are n) ∙ length-replicate n 0

pub length-none_made : (n : ℕ) → length (none_made n) ≡ n
length-none_made n = ap length (none_are n) ∙ length-replicate n false

pub zeros_part : (n o k : ℕ) → o + k ≤ n → part_of (zeros n) o k ≡ zeros k
zeros_part n o k l =
    let few : k ≤ n - o = omega arith in
    ap (λ t. part_of t o k) (zeros_are n) ∙ ap (λ t. take k t) (drop-replicate o n 0) ∙ take-replicate k (n - o) 0 few
    ∙ sym (zeros_are k)

-- zeros, and the first of more zeros
pub zeros_placed : (m n k : ℕ) → n ≤ k → zeros m ++ take n (zeros k) ≡ zeros (m + n)
zeros_placed m n k l = (λ i. zeros_are m i ++ take n (zeros_are k i))
    ∙ ap (λ t. replicate m 0 ++ t) (take-replicate n k 0 l) ∙ replicate-append-replicate m n 0 ∙ sym (zeros_are (m + n))

pub none_placed : (m n k : ℕ) → n ≤ k → none_made m ++ take n (none_made k) ≡ none_made (m + n)
none_placed m n k l = (λ i. none_are m i ++ take n (none_are k i))
    ∙ ap (λ t. replicate m false ++ t) (take-replicate n k false l) ∙ replicate-append-replicate m n false
    ∙ sym (none_are (m + n))

false_at : (n k : ℕ) → get_or (replicate n false) k false ≡ false
false_at zero k = refl
false_at (suc n) zero = refl
false_at (suc n) (suc k) = false_at n k

pub none_at : {Q : Type 0} (n k : ℕ) → IsAt (none_made n) k → Q
none_at n k is = absurd (false≢true (sym (ap (λ t. get_or t k false) (none_are n) ∙ false_at n k) ∙ is))

-- ---- how much each part has
pub page_has : (p : Page) → IsWholePage p → length (page_octets p) ≡ PAGE_OCTETS
page_has p whole = whole

pub page_marks : (p : Page) → IsWholePage p → length (page_made p) ≡ 1
page_marks p whole = refl

pub table_has : (t : Table) → IsWholeTable t → length (table_octets t) ≡ TABLE_OCTETS
table_has None whole = length-zeros TABLE_OCTETS
table_has (Some t) whole = omega
    (arith, whole.0, length_level page_octets IsWholePage PAGE_OCTETS page_has t.value whole.1)

pub table_marks : (t : Table) → IsWholeTable t → length (table_made t) ≡ PARTS
table_marks None whole = length-none_made PARTS
table_marks (Some t) whole = omega (arith, whole.0, length_level page_made IsWholePage 1 page_marks t.value whole.1)

pub directory_has : (d : Directory) → IsWholeDirectory d → length (directory_octets d) ≡ DIRECTORY_OCTETS
directory_has None whole = length-zeros DIRECTORY_OCTETS
directory_has (Some d) whole = omega
    (arith, whole.0, length_level table_octets IsWholeTable TABLE_OCTETS table_has d.value whole.1)

pub directory_marks : (d : Directory) → IsWholeDirectory d → length (directory_made d) ≡ DIRECTORY_PAGES
directory_marks None whole = length-none_made DIRECTORY_PAGES
directory_marks (Some d) whole = omega
    (arith, whole.0, length_level table_made IsWholeTable PARTS table_marks d.value whole.1)

pub length-directories_octets : (ds : List Directory) → AllAre IsWholeDirectory ds
    → length (directories_octets ds) ≡ DIRECTORY_OCTETS * length ds
length-directories_octets ds whole =
    length_level directory_octets IsWholeDirectory DIRECTORY_OCTETS directory_has ds whole

pub length-directories_made : (ds : List Directory) → AllAre IsWholeDirectory ds
    → length (directories_made ds) ≡ DIRECTORY_PAGES * length ds
length-directories_made ds whole = length_level directory_made IsWholeDirectory DIRECTORY_PAGES directory_marks ds whole

-- ---- parts that are not made
pub no_pages : pages_octets (replicate PARTS None) ≡ zeros TABLE_OCTETS
no_pages = flat_level page_octets PARTS PAGE_OCTETS None 0 (zeros_are PAGE_OCTETS) ∙ sym (zeros_are TABLE_OCTETS)

pub no_page_made : pages_made (replicate PARTS None) ≡ none_made PARTS
no_page_made = flat_level page_made PARTS 1 None false refl ∙ sym (none_are PARTS)

pub no_tables : tables_octets (replicate PARTS None) ≡ zeros DIRECTORY_OCTETS
no_tables = flat_level table_octets PARTS TABLE_OCTETS None 0 (zeros_are TABLE_OCTETS)
    ∙ sym (zeros_are DIRECTORY_OCTETS)

pub no_table_made : tables_made (replicate PARTS None) ≡ none_made DIRECTORY_PAGES
no_table_made = flat_level table_made PARTS PARTS None false (none_are PARTS) ∙ sym (none_are DIRECTORY_PAGES)

pub no_directories : (n : ℕ) → directories_octets (replicate n None) ≡ zeros (DIRECTORY_OCTETS * n)
no_directories n = flat_level directory_octets n DIRECTORY_OCTETS None 0 (zeros_are DIRECTORY_OCTETS)
    ∙ sym (zeros_are (DIRECTORY_OCTETS * n))

pub no_directory_made : (n : ℕ) → directories_made (replicate n None) ≡ none_made (DIRECTORY_PAGES * n)
no_directory_made n = flat_level directory_made n DIRECTORY_PAGES None false (none_are DIRECTORY_PAGES)
    ∙ sym (none_are (DIRECTORY_PAGES * n))

-- ---- what follows from what a result says
pub on_ok : {T E : Type 0} (r : Result T E) {P Q : Type 0} → (P → Q) → OnOk r P → OnOk r Q
on_ok (Ok x) f is = f is
on_ok (Err e) f is = tt

pub on_err : {T E : Type 0} (r : Result T E) {P Q : Type 0} → (P → Q) → OnErr r P → OnErr r Q
on_err (Ok x) f is = tt
on_err (Err e) f is = f is

pub either : {T E : Type 0} (r : Result T E) {P Q R S : Type 0} → (P → Q) → (R → S) → OnOk r P → OnErr r R → Q ⊎ S
either (Ok x) f g is none = inl (f is)
either (Err e) f g none is = inr (g is)

-- all of a list
pub all_of : (xs : List ℕ) (n : ℕ) → length xs ≡ n → part_of xs 0 n ≡ xs
all_of xs n size = ap (λ k. take k xs) (sym size) ∙ take-length xs
