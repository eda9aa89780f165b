-- Memory from a base on, over so many pages.
use Rattle.std.proofs.Common.{
  ◌≡◌,
  ℕ,
  ◌+◌,
  ◌*◌,
  ◌-◌,
  ◌/◌,
  ◌%◌,
  ◌≤◌,
  ◌<◌,
  ◌⊎◌,
  ◌∷◌,
  [],
  suc,
  inl,
  inr,
  true,
  false,
  Bool,
  List,
  ◌++◌,
  length,
  take,
  drop,
  get_or,
  refl,
  sym,
  ap,
  ◌∙◌,
  subst,
  arith,
  length-append,
}
use Rattle.std.proofs.lemmas.List.{length-take-le, take_at, get_or-append_right}
use Rattle.std.proofs.lemmas.List.{get_or_append_left, get_or-take, get_or-drop}
use Rattle.std.proofs.lemmas.Bool.{cases_lt}
use Rattle.em_mem.specs.declared.TheConstants.{PAGE_OCTETS}
use Rattle.em_mem.specs.Memory.{Cells, IsHeld, IsPageMade, IsPageOf, part, put, zeros, none_made}
use Rattle.em_mem.specs.Pages.{IsAt, IsMemory, IsPageFrom, Pages, cells_of, mark, part_of, put_in}
use Rattle.em_mem.proofs.ItemLaws.{
  length-part_of,
  length-put_in,
  part_of-part_of,
  part_placed,
  put_placed,
  get_placed,
}
use Rattle.em_mem.proofs.RowLaws.{length-zeros, length-none_made}

-- a list in the place of another of its length
pub back_is : {A : Type 0} (n : ℕ) (new old : List A) → length new ≡ length old → n ≡ length old
    → take n (new ++ drop (length new) old) ≡ new
back_is n new old size is = take_at new (drop (length new) old) n (size ∙ sym is)

-- ---- an item that is marked
minus_self : (k : ℕ) → k - k ≡ 0
minus_self k = omega arith

pub marked : (m : List Bool) (k : ℕ) → k < length m → get_or (mark m k) k false ≡ true
marked m k l =
    get_or-append_right (take k m) (true ∷ drop (k + 1) m) k k false (length-take-le k m (omega arith)) (omega arith)
    ∙ ap (λ j. get_or (true ∷ drop (k + 1) m) j false) (minus_self k)

-- the others stay
pub mark_beside : (m : List Bool) (k p : ℕ) → k < length m → (p < k) ⊎ (k < p)
    → get_or (mark m k) p false ≡ get_or m p false
mark_beside m k p l (inl before) =
    get_or_append_left (take k m) (true ∷ drop (k + 1) m) false p (omega (
      arith,
      before,
      length-take-le k m
          (omega arith),
    ))
    ∙ get_or-take k m p false before
mark_beside m k p l (inr past) =
    let rest : p - k ≡ suc (p - (k + 1)) = omega (arith, past) in
    let whole : k + 1 + (p - (k + 1)) ≡ p = omega (arith, past) in
    get_or-append_right (take k m) (true ∷ drop (k + 1) m) k p false (length-take-le k m (omega arith)) (omega
    (arith, past))
    ∙ ap (λ j. get_or (true ∷ drop (k + 1) m) j false) rest
    ∙ get_or-drop (k + 1) m (p - (k + 1)) false ∙ ap (λ j. get_or m j false) whole

same_or_beside : (p k : ℕ) → (p ≡ k) ⊎ ((p < k) ⊎ (k < p))
same_or_beside p k = elim (cases_lt p k) [
  | inl before ↦ inr (inl before)
  | inr from ↦ elim (cases_lt k p) [ inl past ↦ inr (inr past) | inr to ↦ inl (omega (arith, from, to)) ]
]

pub mark_more : (m : List Bool) (k p : ℕ) → k < length m → get_or m p false ≡ true → get_or (mark m k) p false ≡ true
mark_more m k p l is = elim (same_or_beside p k) [
  | inl here ↦ ap (λ j. get_or (mark m k) j false) here ∙ marked m k l
  | inr beside ↦ mark_beside m k p l beside ∙ is
]

pub mark_only : (m : List Bool) (k p : ℕ) → k < length m → get_or (mark m k) p false ≡ true
    → (get_or m p false ≡ true) ⊎ (p ≡ k)
mark_only m k p l is = elim (same_or_beside p k) [
  | inl here ↦ inr here
  | inr beside ↦ inl (sym (mark_beside m k p l beside) ∙ is)
]

pub length-mark : (m : List Bool) (k : ℕ) → k < length m → length (mark m k) ≡ length m
length-mark m k l = length-put_in m k (true ∷ []) (omega (arith, l))

-- ---- pages of a range
div_mono : (a b : ℕ) → a ≤ b → a / PAGE_OCTETS ≤ b / PAGE_OCTETS
div_mono a b l = omega arith

-- the pages of a range are those from the first octet's to the last one's
pub made_range : (m : List Bool) (a n : ℕ) → 0 < n
    → ((p : ℕ) → a / PAGE_OCTETS ≤ p → p ≤ (a + (n - 1)) / PAGE_OCTETS → get_or m p false ≡ true) → (i : ℕ) → i < n
    → get_or m ((a + i) / PAGE_OCTETS) false ≡ true
made_range m a n some all i l = all ((a + i) / PAGE_OCTETS) (div_mono a (a + i) (omega arith))
    (div_mono (a + i) (a + (n - 1)) (omega arith))

-- a page of a range whose pages are made
pub made_page_of : (m : List Bool) (a n p : ℕ) → ((i : ℕ) → i < n → get_or m ((a + i) / PAGE_OCTETS) false ≡ true)
    → IsPageOf p a n → get_or m p false ≡ true
made_page_of m a n p all of =
    let some = of.0 in
    let low = of.1 in
    let high = of.2 in
    let page : (a + (PAGE_OCTETS * p - a)) / PAGE_OCTETS ≡ p = omega arith in
    subst (λ k. get_or m k false ≡ true) page (all (PAGE_OCTETS * p - a) (omega arith))

-- ---- the page of an address, from the base on
page_from : (base a : ℕ) → base % 4096 ≡ 0 → base ≤ a → (a - base) / 4096 ≡ a / 4096 - base / 4096
page_from base a whole l = omega arith

page_below : (base size a : ℕ) → base % 4096 ≡ 0 → size % 4096 ≡ 0 → a < base + size
    → a / 4096 < base / 4096 + size / 4096
page_below base size a b s l = omega arith

page_past : (base a : ℕ) → base ≤ a → base / 4096 ≤ a / 4096
page_past base a l = omega arith

pub rest_from : (base a : ℕ) → base % 4096 ≡ 0 → base ≤ a → (a - base) % 4096 ≡ a % 4096
rest_from base a whole l = omega arith

pub pages_sum : (base size : ℕ) → base % 4096 ≡ 0 → size % 4096 ≡ 0
    → base / 4096 + size / 4096 ≡ (base + size) / 4096
pages_sum base size b s = omega arith

module _ (v : Cells) (base size : ℕ) (s : Pages) (memory : IsMemory base size s) where
  -- there are pages enough
  pub pages_room : size / PAGE_OCTETS ≤ length s.made
  pages_room = omega (arith, memory.room, memory.pages)

  pub length-cells : length (cells_of base size s).octets ≡ base + size
  length-cells =
      length-append (zeros base) (take size s.octets)
      ∙ (λ i. length-zeros base i + length-take-le size s.octets memory.room i)

  pub length-cells_made : length (cells_of base size s).made ≡ base / PAGE_OCTETS + size / PAGE_OCTETS
  length-cells_made =
      length-append (none_made (base / PAGE_OCTETS)) (take (size / PAGE_OCTETS) s.made)
      ∙ (λ i. length-none_made (base / PAGE_OCTETS) i + length-take-le (size / PAGE_OCTETS) s.made pages_room i)

  module _ (view : cells_of base size s ≡ v) where
    pub begins : base ≡ v.base
    begins = ap (λ c. c.base) view

    pub ends : base + size ≡ length v.octets
    ends = sym length-cells ∙ ap (λ c. length c.octets) view

    -- the page of a held address
    pub page_of : (a n : ℕ) → 0 < n → IsHeld v a n → IsPageFrom v (a / 4096)
    page_of a n some held =
        let to : a < base + size = omega (arith, some, held.to, ends) in
        record {
          from = page_past v.base a held.from;
          to = omega (
            arith,
            page_below base size a memory.range.whole_base memory.range.whole_size to,
            length-cells_made,
            ap (λ c. length c.made) view,
          );
        }

    -- is one of those that there are
    pub index_in : (p : ℕ) → IsPageFrom v p → p - base / PAGE_OCTETS < length s.made
    index_in p page =
        omega (arith, page.from, page.to, begins, pages_room, length-cells_made, ap (λ c. length c.made) view)

    pub page_in : (a n : ℕ) → 0 < n → IsHeld v a n → (a - base) / PAGE_OCTETS < length s.made
    page_in a n some held =
        let from : base ≤ a = omega (arith, begins, held.from) in
        omega (arith, index_in (a / 4096) (page_of a n some held), page_from base a memory.range.whole_base from)

    -- a held range
    pub part_cells : (a n : ℕ) → IsHeld v a n → part v.octets a n ≡ part s.octets (a - base) n
    part_cells a n held =
        sym (ap (λ c. part c.octets a n) view)
        ∙ part_placed (zeros base) s.octets base size a n (length-zeros base) (omega (arith, begins, held.from))
        (omega (arith, ends, held.to)) memory.room

    -- what lies in one page, of the page's octets
    pub part_of_page : (a n : ℕ) (page : List ℕ) → 0 < n → IsHeld v a n → a % PAGE_OCTETS + n ≤ PAGE_OCTETS
        → page ≡ part s.octets (PAGE_OCTETS * ((a - base) / PAGE_OCTETS)) PAGE_OCTETS
        → part page ((a - base) % PAGE_OCTETS) n ≡ part v.octets a n
    part_of_page a n page some held one is =
        let k : ℕ = a - base in
        let from : base ≤ a = omega (arith, begins, held.from) in
        let at : PAGE_OCTETS * (k / PAGE_OCTETS) + k % PAGE_OCTETS ≡ k = omega arith in
        ap (λ p. part p (k % PAGE_OCTETS) n) is
        ∙ part_of-part_of s.octets (PAGE_OCTETS * (k / PAGE_OCTETS)) PAGE_OCTETS (k % PAGE_OCTETS) n
        (omega (arith, one, rest_from base a memory.range.whole_base from))
        (omega (arith, page_in a n some held, memory.pages))
        ∙ ap (λ j. part s.octets j n) at ∙ sym (part_cells a n held)

    -- the pages in which d is written
    pub put_cells : (t : Pages) (a : ℕ) (d : List ℕ) → IsHeld v a (length d)
        → t.octets ≡ put s.octets (a - base) d → (cells_of base size t).octets ≡ put v.octets a d
    put_cells t a d held wrote =
        ap (λ m. zeros base ++ take size m) wrote
        ∙ sym (put_placed (zeros base) s.octets base size a d (length-zeros base) (omega (arith, begins, held.from))
        (omega (arith, ends, held.to)) memory.room)
        ∙ ap (λ c. put c.octets a d) view

    pub length-put_pages : (a : ℕ) (d : List ℕ) → IsHeld v a (length d)
        → length (put s.octets (a - base) d) ≡ length s.octets
    length-put_pages a d held =
        length-put_in s.octets (a - base) d (omega (arith, begins, held.from, held.to, ends, memory.room))

    -- a page of it is made
    pub made_cells : (p : ℕ) → IsPageFrom v p → get_or s.made (p - base / PAGE_OCTETS) false ≡ get_or v.made p false
    made_cells p page =
        sym (get_placed (none_made (base / PAGE_OCTETS)) s.made (base / PAGE_OCTETS) (size / PAGE_OCTETS) p false
        (length-none_made (base / PAGE_OCTETS)) (omega (arith, page.from, begins))
        (omega (arith, page.to, length-cells_made, ap (λ c. length c.made) view)))
        ∙ ap (λ c. get_or c.made p false) view

    pub made_at : (a n : ℕ) → 0 < n → IsHeld v a n → IsPageMade v (a / 4096)
        → IsAt s.made ((a - base) / PAGE_OCTETS)
    made_at a n some held made =
        let from : base ≤ a = omega (arith, begins, held.from) in
        ap (λ k. get_or s.made k false) (page_from base a memory.range.whole_base from)
        ∙ made_cells (a / 4096) (page_of a n some held) ∙ made

    -- the pages of which one is made
    pub make_cells : (t : Pages) (p : ℕ) → IsPageFrom v p → t.made ≡ mark s.made (p - base / PAGE_OCTETS)
        → (cells_of base size t).made ≡ mark v.made p
    make_cells t p page makes =
        let to : p + 1 ≤ base / PAGE_OCTETS + size / PAGE_OCTETS
        = omega (arith, page.to, length-cells_made, ap (λ c. length c.made) view) in
        ap (λ m. none_made (base / PAGE_OCTETS) ++ take (size / PAGE_OCTETS) m) makes
        ∙ sym (put_placed (none_made (base / PAGE_OCTETS)) s.made (base / PAGE_OCTETS) (size / PAGE_OCTETS) p
        (true ∷ [])
        (length-none_made (base / PAGE_OCTETS)) (omega (arith, page.from, begins)) to pages_room)
        ∙ ap (λ c. mark c.made p) view
