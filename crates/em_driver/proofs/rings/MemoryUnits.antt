-- Descriptors and buffers of a layout as units of memory, and what a write to one of them leaves of the others.
use Rattle.std.proofs.Common.{◌≡◌, ◌≢◌, ◌∙◌, ℕ, ◌+◌, ◌-◌, ◌*◌, ◌<◌, ◌≤◌, List, ◌++◌, length, take, drop, sym, ap}
use Rattle.std.proofs.Common.{inl, inr, arith, subst}
use Rattle.std.proofs.lemmas.Bool.{cases_lt}
use Rattle.std.proofs.lemmas.List.{length-take-le, length-drop, drop-append-le, take-append-le}
use Rattle.std.proofs.lemmas.List.{drop-take}
use Rattle.std.proofs.lemmas.List.{take-take, drop-drop, take-append-drop, take_at, drop_at}
use Rattle.em_mem.specs.Memory.{EndsIn, LiesIn, part, put}
use Rattle.em_mem.proofs.ItemLaws.{put_left, put_right}
use Rattle.em_mem.proofs.PutLaws.{drop_past-put, length-part, length-put}
use Rattle.em_driver.specs.Layout.{Apart, IsGoodLayout}
use Rattle.em_driver.specs.Others.{IsNoDriverMemory}
use Rattle.em_driver.specs.declared.layout.Layout.{Layout}

-- ---- parts of a list

-- what lies apart from a write stays
part_apart : (m : List ℕ) (a n b : ℕ) (d : List ℕ) → EndsIn m b (length d) → Apart a n b (length d)
    → part (put m b d) a n ≡ part m a n
part_apart m a n b d held (inl before) =
    let front : length (take b m) ≡ b = length-take-le b m (omega arith) in
    let rest : List ℕ = d ++ drop (b + length d) m in
    let cut_out : drop a (take b m) ≡ take (b - a) (drop a m)
    = ap (λ (k : ℕ). drop a (take k m)) (omega arith) ∙ drop-take a (b - a) m in
    ap (take n) (drop-append-le a (take b m) rest (omega arith))
    ∙ take-append-le n (drop a (take b m)) rest (omega (arith, length-drop a (take b m)))
    ∙ ap (take n) cut_out
    ∙ take-take n (b - a) (drop a m) (omega arith)
part_apart m a n b d held (inr behind) =
    let end : ℕ = b + length d in
    let past : drop a (put m b d) ≡ drop a m
    = ap (λ (k : ℕ). drop k (put m b d)) (omega arith)
    ∙ sym (drop-drop (a - end) end (put m b d))
    ∙ ap (drop (a - end)) (drop_past-put m b d held)
    ∙ drop-drop (a - end) end m
    ∙ ap (λ (k : ℕ). drop k m) (omega arith) in
    ap (take n) past

-- a write within a part is a write to the part
part_within : (m : List ℕ) (a n o : ℕ) (d : List ℕ) → o + length d ≤ n → a + n ≤ length m
    → part (put m (a + o) d) a n ≡ put (part m a n) o d
part_within m a n o d inside held =
    let front : length (take a m) ≡ a = length-take-le a m (omega arith) in
    let size : length (part m a n) ≡ n = length-part m a n held in
    let whole : put m (a + o) d ≡ take a m ++ put (drop a m) o d
    = ap (λ x. put x (a + o) d) (sym (take-append-drop a m))
    ∙ put_right (take a m) (drop a m) (a + o) o d (omega arith) in
    let rest : put (drop a m) o d ≡ put (part m a n) o d ++ drop n (drop a m)
    = ap (λ x. put x o d) (sym (take-append-drop n (drop a m)))
    ∙ put_left (part m a n) (drop n (drop a m)) o d (omega arith) in
    ap (λ x. part x a n) whole
    ∙ ap (take n) (drop_at (take a m) (put (drop a m) o d) a front)
    ∙ ap (take n) rest
    ∙ take_at (put (part m a n) o d) (drop n (drop a m)) n
    (omega (arith, length-put (part m a n) o d (omega arith)))

-- a part of a part that begins where it does
pub part_front : (m : List ℕ) (a n k : ℕ) → n ≤ k → part m a n ≡ take n (part m a k)
part_front m a n k h = sym (take-take n k (drop a m) h)

-- ---- units

-- the four regions of a layout
pub data Region : Type 0 where
  rx_ring : Region
  rx_buffers : Region
  tx_ring : Region
  tx_buffers : Region

abbrev pub start_of : Layout → Region → ℕ
start_of l rx_ring = l.rx_ring
start_of l rx_buffers = l.rx_buffers
start_of l tx_ring = l.tx_ring
start_of l tx_buffers = l.tx_buffers

abbrev pub size_of : Region → ℕ
size_of rx_ring = 16
size_of rx_buffers = 2048
size_of tx_ring = 16
size_of tx_buffers = 2048

abbrev pub count_of : Layout → Region → ℕ
count_of l rx_ring = l.rx_count
count_of l rx_buffers = l.rx_count
count_of l tx_ring = l.tx_count
count_of l tx_buffers = l.tx_count

abbrev pub unit_at : Layout → Region → ℕ → ℕ
unit_at l k i = start_of l k + size_of k * i

-- unit i of a region: a descriptor, or a buffer
abbrev pub unit : Layout → List ℕ → Region → ℕ → List ℕ
unit l m k i = part m (unit_at l k i) (size_of k)

-- two units are not the same one
abbrev pub AreTwo : Region → ℕ → Region → ℕ → Type 0
AreTwo rx_ring i rx_ring j = i ≢ j
AreTwo rx_buffers i rx_buffers j = i ≢ j
AreTwo tx_ring i tx_ring j = i ≢ j
AreTwo tx_buffers i tx_buffers j = i ≢ j
AreTwo k i k' j = Unit {0}

regions : {a m b n : ℕ} (x u y v : ℕ) → Apart a m b n → x + u ≤ m → y + v ≤ n → Apart (a + x) u (b + y) v
regions {a = a} {m = m} {b = b} {n = n} x u y v (inl h) p q = inl (omega arith)
regions x u y v (inr h) p q = inr (omega arith)

turned : {a : ℕ} (m : ℕ) {b : ℕ} (n : ℕ) → Apart a m b n → Apart b n a m
turned {a = a} m {b = b} n (inl h) = inr h
turned m n (inr h) = inl h

small : (a i j : ℕ) → i ≢ j → Apart (a + 16 * i) 16 (a + 16 * j) 16
small a i j h = elim (cases_lt i j) [ inl l ↦ inl (omega arith) | inr l ↦ inr (omega arith) ]

large : (a i j : ℕ) → i ≢ j → Apart (a + 2048 * i) 2048 (a + 2048 * j) 2048
large a i j h = elim (cases_lt i j) [ inl l ↦ inl (omega arith) | inr l ↦ inr (omega arith) ]

-- two units have no octet in common
units_apart : (l : Layout) {b n : ℕ} → IsGoodLayout b n l → (k k' : Region) (i j : ℕ) → i < count_of l k → j < count_of l k'
    → AreTwo k i k' j → Apart (unit_at l k i) (size_of k) (unit_at l k' j) (size_of k')
units_apart l h rx_ring rx_ring i j a b two = small l.rx_ring i j two
units_apart l h rx_ring rx_buffers i j a b two =
    regions (16 * i) 16 (2048 * j) 2048 h.receive.apart (omega arith) (omega arith)
units_apart l h rx_ring tx_ring i j a b two =
    regions (16 * i) 16 (16 * j) 16 h.disjoint.rings (omega arith) (omega arith)
units_apart l h rx_ring tx_buffers i j a b two =
    regions (16 * i) 16 (2048 * j) 2048 h.disjoint.first_ring (omega arith) (omega arith)
units_apart l h rx_buffers rx_ring i j a b two =
    regions (2048 * i) 2048 (16 * j) 16 (turned _ _ h.receive.apart) (omega arith) (omega arith)
units_apart l h rx_buffers rx_buffers i j a b two = large l.rx_buffers i j two
units_apart l h rx_buffers tx_ring i j a b two =
    regions (2048 * i) 2048 (16 * j) 16 (turned _ _ h.disjoint.second_ring) (omega arith) (omega arith)
units_apart l h rx_buffers tx_buffers i j a b two =
    regions (2048 * i) 2048 (2048 * j) 2048 h.disjoint.buffers (omega arith) (omega arith)
units_apart l h tx_ring rx_ring i j a b two =
    regions (16 * i) 16 (16 * j) 16 (turned _ _ h.disjoint.rings) (omega arith) (omega arith)
units_apart l h tx_ring rx_buffers i j a b two =
    regions (16 * i) 16 (2048 * j) 2048 h.disjoint.second_ring (omega arith) (omega arith)
units_apart l h tx_ring tx_ring i j a b two = small l.tx_ring i j two
units_apart l h tx_ring tx_buffers i j a b two =
    regions (16 * i) 16 (2048 * j) 2048 h.transmit.apart (omega arith) (omega arith)
units_apart l h tx_buffers rx_ring i j a b two =
    regions (2048 * i) 2048 (16 * j) 16 (turned _ _ h.disjoint.first_ring) (omega arith) (omega arith)
units_apart l h tx_buffers rx_buffers i j a b two =
    regions (2048 * i) 2048 (2048 * j) 2048 (turned _ _ h.disjoint.buffers) (omega arith) (omega arith)
units_apart l h tx_buffers tx_ring i j a b two =
    regions (2048 * i) 2048 (16 * j) 16 (turned _ _ h.transmit.apart) (omega arith) (omega arith)
units_apart l h tx_buffers tx_buffers i j a b two = large l.tx_buffers i j two

-- a unit lies in memory
pub unit_from : (l : Layout) {b n : ℕ} → IsGoodLayout b n l → (k : Region) (i : ℕ) → b ≤ unit_at l k i
unit_from l h rx_ring i = omega (arith, h.receive.inside.ring_from)
unit_from l h rx_buffers i = omega (arith, h.receive.inside.buffers_from)
unit_from l h tx_ring i = omega (arith, h.transmit.inside.ring_from)
unit_from l h tx_buffers i = omega (arith, h.transmit.inside.buffers_from)

pub unit_held : (l : Layout) {b : ℕ} (n : ℕ) → IsGoodLayout b n l → (k : Region) (i : ℕ) → i < count_of l k
    → unit_at l k i + size_of k ≤ n
unit_held l n h rx_ring i a = omega (arith, h.receive.inside.ring)
unit_held l n h rx_buffers i a = omega (arith, h.receive.inside.buffers)
unit_held l n h tx_ring i a = omega (arith, h.transmit.inside.ring)
unit_held l n h tx_buffers i a = omega (arith, h.transmit.inside.buffers)

pub unit_lies : (l : Layout) (b : ℕ) (m : List ℕ) → IsGoodLayout b (length m) l → (k : Region) (i : ℕ)
    → i < count_of l k → LiesIn b m (unit_at l k i) (size_of k)
unit_lies l b m h k i low = record { from = unit_from l h k i; to = unit_held l (length m) h k i low }

-- a layout stays good where memory begins and ends as it did
pub good_same : (l : Layout) {b c m n : ℕ} → c ≡ b → n ≡ m → IsGoodLayout b m l → IsGoodLayout c n l
good_same l {b = b} {n = n} base end h =
    subst (λ x. IsGoodLayout x n l) (sym base) (subst (λ x. IsGoodLayout b x l) (sym end) h)

part_of_apart : {a : ℕ} (n : ℕ) {b u : ℕ} (o w : ℕ) → Apart a n b u → o + w ≤ u → Apart a n (b + o) w
part_of_apart {a = a} n {b = b} {u = u} o w (inl h) p = inl (omega arith)
part_of_apart {a = a} n {b = b} {u = u} o w (inr h) p = inr (omega arith)

-- a write to one unit leaves another one
pub unit_apart : (l : Layout) {b : ℕ} (m : List ℕ) → IsGoodLayout b (length m) l → (k k' : Region) (i j o : ℕ) (d : List ℕ)
    → i < count_of l k → j < count_of l k' → o + length d ≤ size_of k' → AreTwo k i k' j
    → unit l (put m (unit_at l k' j + o) d) k i ≡ unit l m k i
unit_apart l m good k k' i j o d a b inside two =
    let held = unit_held l (length m) good k' j b in
    part_apart m (unit_at l k i) (size_of k) (unit_at l k' j + o) d (omega arith)
    (part_of_apart _ o (length d) (units_apart l good k k' i j a b two) inside)

-- so does a write to memory that is none of the driver's
outside : (a n : ℕ) {b m : ℕ} (x u : ℕ) → Apart a n b m → x + u ≤ m → Apart (b + x) u a n
outside a n {b = b} {m = m} x u (inl h) p = inr (omega arith)
outside a n x u (inr h) p = inl (omega arith)

unit_free : (l : Layout) (a n : ℕ) → IsNoDriverMemory l a n → (k : Region) (i : ℕ) → i < count_of l k
    → Apart (unit_at l k i) (size_of k) a n
unit_free l a n h rx_ring i low = outside a n (16 * i) 16 h.rx_ring (omega arith)
unit_free l a n h rx_buffers i low = outside a n (2048 * i) 2048 h.rx_buffers (omega arith)
unit_free l a n h tx_ring i low = outside a n (16 * i) 16 h.tx_ring (omega arith)
unit_free l a n h tx_buffers i low = outside a n (2048 * i) 2048 h.tx_buffers (omega arith)

pub unit_outside : (l : Layout) (m : List ℕ) (a : ℕ) (d : List ℕ) → EndsIn m a (length d)
    → IsNoDriverMemory l a (length d) → (k : Region) (i : ℕ) → i < count_of l k
    → unit l (put m a d) k i ≡ unit l m k i
unit_outside l m a d held h k i low =
    part_apart m (unit_at l k i) (size_of k) a d held (unit_free l a (length d) h k i low)

-- a write to a unit is a write to what it holds
pub unit_within : (l : Layout) {b : ℕ} (m : List ℕ) → IsGoodLayout b (length m) l → (k : Region) (j o : ℕ) (d : List ℕ)
    → j < count_of l k → o + length d ≤ size_of k
    → unit l (put m (unit_at l k j + o) d) k j ≡ put (unit l m k j) o d
unit_within l m good k j o d b inside =
    part_within m (unit_at l k j) (size_of k) o d inside (unit_held l (length m) good k j b)

-- memory stays as long
pub unit_size : (l : Layout) {b : ℕ} (m : List ℕ) → IsGoodLayout b (length m) l → (k : Region) (j o : ℕ) (d : List ℕ)
    → j < count_of l k → o + length d ≤ size_of k → length (put m (unit_at l k j + o) d) ≡ length m
unit_size l m good k j o d b inside =
    let held = unit_held l (length m) good k j b in
    length-put m (unit_at l k j + o) d (omega arith)

pub unit_long : (l : Layout) {b : ℕ} (m : List ℕ) → IsGoodLayout b (length m) l → (k : Region) (i : ℕ) → i < count_of l k
    → length (unit l m k i) ≡ size_of k
unit_long l m good k i a = length-part m (unit_at l k i) (size_of k) (unit_held l (length m) good k i a)
