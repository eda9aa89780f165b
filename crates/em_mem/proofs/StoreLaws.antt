-- The pages of a table, and behind them those of directories.
use Rattle.std.proofs.Common.{
  ◌≡◌,
  ℕ,
  ◌+◌,
  ◌*◌,
  ◌-◌,
  ◌≤◌,
  ◌<◌,
  ◌∷◌,
  [],
  true,
  false,
  List,
  ◌++◌,
  length,
  get_or,
  replicate,
  None,
  refl,
  sym,
  ap,
  ◌∙◌,
  arith,
  length-append,
}
use Rattle.std.proofs.lemmas.List.{get_or_append_left, get_or-append_right, replicate-append-replicate}
use Rattle.em_mem.specs.declared.TheConstants.{PAGE_OCTETS, DIRECTORY_OCTETS, DIRECTORY_PAGES}
use Rattle.em_mem.specs.Memory.{none_made, part, put, zeros}
use Rattle.em_mem.specs.Pages.{
  AllAre,
  IsAt,
  Page,
  Directory,
  page_octets,
  page_made,
  pages_octets,
  pages_made,
  directories_octets,
  directories_made,
  IsStore,
  IsWholeDirectory,
  IsWholePage,
  all_of,
  mark,
}
use Rattle.em_mem.proofs.ItemLaws.{length-part_of, part_left, part_right, put_left, put_right}
use Rattle.em_mem.proofs.LevelLaws.{flat_level, length_level}
use Rattle.em_mem.proofs.RowLaws.{
  length-directories_made,
  length-directories_octets,
  no_directories,
  no_directory_made,
  none_are,
  page_has,
  page_marks,
  zeros_are,
}

pub length-pages_octets : (ps : List Page) → AllAre IsWholePage ps → length (pages_octets ps) ≡ PAGE_OCTETS * length ps
length-pages_octets ps whole = length_level page_octets IsWholePage PAGE_OCTETS page_has ps whole

pub length-pages_made : (ps : List Page) → AllAre IsWholePage ps → length (pages_made ps) ≡ length ps
length-pages_made ps whole = omega (arith, length_level page_made IsWholePage 1 page_marks ps whole)

module _ (ps : List Page) (ds : List Directory) (z : List ℕ) (store : IsStore ps ds z) where
  pub length-made : length (all_of ps ds).made ≡ length ps + DIRECTORY_PAGES * length ds
  length-made =
      omega (
        arith,
        length-append (pages_made ps) (directories_made ds),
        length-pages_made ps store.whole,
        length-directories_made ds store.whole_directories,
      )

  pub length-octets : length (all_of ps ds).octets ≡ PAGE_OCTETS * length ps + DIRECTORY_OCTETS * length ds
  length-octets =
      omega (
        arith,
        length-append (pages_octets ps) (directories_octets ds),
        length-pages_octets ps store.whole,
        length-directories_octets ds store.whole_directories,
      )

  -- a page that is not one of the table's is one of the directories'
  pub behind : (k : ℕ) → length ps ≤ k → k < length (all_of ps ds).made
      → k - length ps < DIRECTORY_PAGES * length ds
  behind k past l = omega (arith, past, l, length-made)

  -- a page of the table
  pub octets_first : (k : ℕ) → k < length ps
      → part (pages_octets ps) (PAGE_OCTETS * k) PAGE_OCTETS ≡ part (all_of ps ds).octets (PAGE_OCTETS * k) PAGE_OCTETS
  octets_first k l =
      sym (part_left (pages_octets ps) (directories_octets ds) (PAGE_OCTETS * k) PAGE_OCTETS
      (omega (arith, l, length-pages_octets ps store.whole)))

  -- a page of the directories
  pub octets_behind : (k : ℕ) → length ps ≤ k
      → part (directories_octets ds) (PAGE_OCTETS * (k - length ps)) PAGE_OCTETS
      ≡ part (all_of ps ds).octets (PAGE_OCTETS * k) PAGE_OCTETS
  octets_behind k past =
      sym (part_right (pages_octets ps) (directories_octets ds) (PAGE_OCTETS * k) (PAGE_OCTETS *
      (k - length ps)) PAGE_OCTETS
      (omega (arith, past, length-pages_octets ps store.whole)))

  pub length-page : (k : ℕ) → k < length (all_of ps ds).made
      → length (part (all_of ps ds).octets (PAGE_OCTETS * k) PAGE_OCTETS) ≡ PAGE_OCTETS
  length-page k l =
      length-part_of (all_of ps ds).octets (PAGE_OCTETS * k) PAGE_OCTETS (omega (arith, l, length-made, length-octets))

  pub made_first : (k : ℕ) → k < length ps → get_or (pages_made ps) k false ≡ get_or (all_of ps ds).made k false
  made_first k l =
      sym (get_or_append_left (pages_made ps) (directories_made ds) false k (omega
      (arith, l, length-pages_made ps store.whole)))

  pub made_behind : (k : ℕ) → length ps ≤ k
      → get_or (directories_made ds) (k - length ps) false ≡ get_or (all_of ps ds).made k false
  made_behind k past =
      sym (get_or-append_right (pages_made ps) (directories_made ds) (length ps) k false
      (length-pages_made ps store.whole) past)

  -- with another table, or other directories
  pub mark_first : (k : ℕ) (qs : List Page) → k < length ps → pages_made qs ≡ mark (pages_made ps) k
      → (all_of qs ds).made ≡ mark (all_of ps ds).made k
  mark_first k qs l is =
      ap (λ t. t ++ directories_made ds) is
      ∙ sym (put_left (pages_made ps) (directories_made ds) k (true ∷ []) (omega
      (arith, l, length-pages_made ps store.whole)))

  pub mark_behind : (k : ℕ) (es : List Directory) → length ps ≤ k
      → directories_made es ≡ mark (directories_made ds) (k - length ps) → (all_of ps es).made ≡ mark
      (all_of ps ds).made k
  mark_behind k es past is =
      ap (λ t. pages_made ps ++ t) is
      ∙ sym (put_right (pages_made ps) (directories_made ds) k (k - length ps) (true ∷ [])
      (omega (arith, past, length-pages_made ps store.whole)))

  pub put_first : (k o : ℕ) (d : List ℕ) (qs : List Page) → k < length ps → o + length d ≤ PAGE_OCTETS
      → pages_octets qs ≡ put (pages_octets ps) (PAGE_OCTETS * k + o) d
      → (all_of qs ds).octets ≡ put (all_of ps ds).octets (PAGE_OCTETS * k + o) d
  put_first k o d qs l one is =
      ap (λ t. t ++ directories_octets ds) is
      ∙ sym (put_left (pages_octets ps) (directories_octets ds) (PAGE_OCTETS * k + o) d
      (omega (arith, l, one, length-pages_octets ps store.whole)))

  pub put_behind : (k o : ℕ) (d : List ℕ) (es : List Directory) → length ps ≤ k
      → directories_octets es ≡ put (directories_octets ds) (PAGE_OCTETS * (k - length ps) + o) d
      → (all_of ps es).octets ≡ put (all_of ps ds).octets (PAGE_OCTETS * k + o) d
  put_behind k o d es past is =
      ap (λ t. pages_octets ps ++ t) is
      ∙ sym (put_right (pages_octets ps) (directories_octets ds) (PAGE_OCTETS * k + o) (PAGE_OCTETS *
      (k - length ps) + o) d
      (omega (arith, past, length-pages_octets ps store.whole)))

-- as many pages are marked in the place of as many
pub length_first : (qs ps : List Page) (ds : List Directory) → AllAre IsWholePage qs → AllAre IsWholePage ps
    → length qs ≡ length ps → length (all_of qs ds).made ≡ length (all_of ps ds).made
length_first qs ps ds new old same =
    omega (
      arith,
      length-append (pages_made qs) (directories_made ds),
      length-append (pages_made ps) (directories_made ds),
      length-pages_made qs new,
      length-pages_made ps old,
      same,
    )

pub length_behind : (ps : List Page) (es ds : List Directory) → AllAre IsWholeDirectory es
    → AllAre IsWholeDirectory ds → length es ≡ length ds
    → length (all_of ps es).made ≡ length (all_of ps ds).made
length_behind ps es ds new old same =
    omega (
      arith,
      length-append (pages_made ps) (directories_made es),
      length-append (pages_made ps) (directories_made ds),
      length-directories_made es new,
      length-directories_made ds old,
      same,
    )

-- ---- where none of them is made
zeros-append : (m n : ℕ) → zeros m ++ zeros n ≡ zeros (m + n)
zeros-append m n = (λ i. zeros_are m i ++ zeros_are n i) ∙ replicate-append-replicate m n 0 ∙ sym (zeros_are (m + n))

none-append : (m n : ℕ) → none_made m ++ none_made n ≡ none_made (m + n)
none-append m n = (λ i. none_are m i ++ none_are n i) ∙ replicate-append-replicate m n false ∙ sym (none_are (m + n))

no_first : (n : ℕ) → pages_octets (replicate n None) ≡ zeros (PAGE_OCTETS * n)
no_first n = flat_level page_octets n PAGE_OCTETS None 0 (zeros_are PAGE_OCTETS) ∙ sym (zeros_are (PAGE_OCTETS * n))

no_first_made : (n : ℕ) → pages_made (replicate n None) ≡ none_made n
no_first_made n =
    let one : 1 * n ≡ n = omega arith in
    flat_level page_made n 1 None false refl ∙ sym (none_are (1 * n)) ∙ ap none_made one

pub unmade_octets : (n k : ℕ)
    → (all_of (replicate n None) (replicate k None)).octets ≡ zeros (PAGE_OCTETS * (n + DIRECTORY_PAGES * k))
unmade_octets n k =
    let sum : PAGE_OCTETS * n + DIRECTORY_OCTETS * k ≡ PAGE_OCTETS * (n + DIRECTORY_PAGES * k) = omega arith in
    (λ i. no_first n i ++ no_directories k i) ∙ zeros-append (PAGE_OCTETS * n) (DIRECTORY_OCTETS * k) ∙ ap zeros sum

pub unmade_made : (n k : ℕ)
    → (all_of (replicate n None) (replicate k None)).made ≡ none_made (n + DIRECTORY_PAGES * k)
unmade_made n k =
    (λ i. no_first_made n i ++ no_directory_made k i) ∙ none-append n (DIRECTORY_PAGES * k)
