-- As long as what a test looked at stays, an event is refused.
use Rattle.std.proofs.Common.{◌≡◌, ◌∙◌, ◌+◌, ◌-◌, ◌*◌, ◌/◌, ◌%◌, ◌^◌, ◌<◌, ◌≤◌, ℕ, Bool, true, false, List, [], ◌∷◌}
use Rattle.std.proofs.Common.{◌⊎◌, inl, inr, Option, Some, None, Err, refl, length, sym, ap, subst, arith}
use Rattle.std.specs.Prelude.{◌&&◌, ◌||◌, nat_lt, is_some, slice_index, drop, option_map}
use Rattle.std.specs.Prelude.{if◌then◌else◌, bit_and, min}
use Rattle.std.proofs.lemmas.Bool.{cases_lt}
use Rattle.std.proofs.lemmas.Bool.Decides.{nat_tests}
use Rattle.std.proofs.lemmas.List.{get_or-drop, get_or-take}
use Rattle.byteorder.specs.Endian.{little_number}
use Rattle.em_mem.specs.Memory.{leaves, part}
use Rattle.em_regs.specs.declared.profile.Profile.{Profile}
use Rattle.em_regs.specs.declared.profile.Profile.TheVariants.{Table, Adapter}
use Rattle.em_regs.specs.Setup.{bit, buffer_size, has, rx_setup, tx_setup}
use Rattle.em_rx.specs.Fifo.{Fifo, first, rest}
use Rattle.em_rx.specs.Receive as rx
use Rattle.em_rx.specs.Control.{is_null_at}
use Rattle.em_tx.specs.Control.{as_read, is_over, is_still}
use Rattle.em_tx.specs.Descriptor.{address, dext, length_of}
use Rattle.em_tx.specs.Ring as tx
use Rattle.em_step.specs.Engines.{is_halted, rx_control, tx_control}
use Rattle.em_step.specs.Event.{Event, reads, writes, pokes, arrives, links, receives, transmits}
use Rattle.em_step.specs.State.{State}
use Rattle.em_step.specs.Step.{step}
use Rattle.em_step.specs.declared.refusal.Refusal.{Refusal}
use Rattle.em_reasons.specs.declared.refused.Bounds.{Bounds}
use Rattle.em_reasons.specs.declared.refused.Refused.{Refused}
use Rattle.em_reasons.specs.declared.refused.Refused.TheVariants.{RxDescriptor, RxBuffer, TxDescriptor, TxBuffer}
use Rattle.em_reasons.specs.declared.refused.Refused.TheVariants.{Extended}
use Rattle.em_reasons.specs.Looks.{looks_before, refused_looks, rx_place, tx_place}
use Rattle.em_reasons.specs.Refused.{IsBusy, access_table, bounds_of, is_past, refusal_of, rx_table, tx_octets, tx_table}
use Rattle.em_reasons.specs.Refused.{too_long, unless_idle, why, write_table}
use Rattle.em_reasons.specs.SameLooks.{SameLooks}
use Rattle.em_reasons.specs.Table.{first_of}
use Rattle.em_reasons.proofs.BitLemmas.{bits_within, field_same, has_same}
use Rattle.em_reasons.proofs.IdleLemmas.{rx_tests, tx_tests}
use Rattle.em_reasons.proofs.ReadLemmas.{address_read, dext_read, length_alike, number_same, read_plainly}
use Rattle.em_reasons.proofs.RefusalLemmas.{refused_with_reason}
use Rattle.em_reasons.proofs.StayLemmas.{some_where}

-- ---- octets of a descriptor
-- an octet of a part
octet_of : (m : List ℕ) (a n i : ℕ) → i < n → slice_index (part m a n) i ≡ slice_index m (a + i)
octet_of m a n i less = get_or-take n (drop a m) i 0 less ∙ get_or-drop a m i 0

-- an octet of the descriptor there, where the octets from octet o on are the same
octet_same : (m w : List ℕ) (a o n i : ℕ) → part w (a + o) n ≡ part m (a + o) n → o ≤ i → i < o + n → i < 16
    → slice_index (part w a 16) i ≡ slice_index (part m a 16) i
octet_same m w a o n i same from less within =
    let at : a + i ≡ (a + o) + (i - o) = omega arith in
    octet_of w a 16 i within
    ∙ ap (slice_index w) at
    ∙ sym (octet_of w (a + o) n (i - o) (omega arith))
    ∙ ap (λ (l : List ℕ). slice_index l (i - o)) same
    ∙ octet_of m (a + o) n (i - o) (omega arith)
    ∙ ap (slice_index m) (sym at)
    ∙ sym (octet_of m a 16 i within)

-- the address of the buffer, the length, and CMD
number_at_start : (m w : List ℕ) (a n : ℕ) → 8 ≤ n → n ≤ 16 → part w (a + 0) n ≡ part m (a + 0) n
    → little_number 8 (part w a 16) ≡ little_number 8 (part m a 16)
number_at_start m w a n low high same =
    number_same (part w a 16) (part m a 16) 0 8 (λ k less.
    octet_same m w a 0 n k same (omega arith) (omega arith) (omega arith))

length_same : (m w : List ℕ) (a o n : ℕ) → o ≤ 8 → 10 ≤ o + n → o + n ≤ 16 → part w (a + o) n ≡ part m (a + o) n
    → little_number 2 (drop 8 (part w a 16)) ≡ little_number 2 (drop 8 (part m a 16))
length_same m w a o n low high end same =
    number_same (drop 8 (part w a 16)) (drop 8 (part m a 16)) 0 2 (λ k less.
    get_or-drop 8 (part w a 16) k 0
    ∙ octet_same m w a o n (8 + k) same (omega arith) (omega arith) (omega arith)
    ∙ sym (get_or-drop 8 (part m a 16) k 0))

command_same : (m w : List ℕ) (a : ℕ) → part w (a + 11) 1 ≡ part m (a + 11) 1
    → slice_index (part w a 16) 11 ≡ slice_index (part m a 16) 11
command_same m w a same = octet_same m w a 11 1 11 same (omega arith) (omega arith) (omega arith)

address_of_tx : (m w : List ℕ) (a : ℕ) → part w (a + 0) 10 ≡ part m (a + 0) 10
    → address (part w a 16) ≡ address (part m a 16)
unfolding address
address_of_tx m w a same = number_at_start m w a 10 (omega arith) (omega arith) same

length_of_tx : (m w : List ℕ) (a o n : ℕ) → o ≤ 8 → 10 ≤ o + n → o + n ≤ 16 → part w (a + o) n ≡ part m (a + o) n
    → length_of (part w a 16) ≡ length_of (part m a 16)
unfolding length_of
length_of_tx m w a o n low high end same = length_same m w a o n low high end same

dext_of_tx : (m w : List ℕ) (a : ℕ) → part w (a + 11) 1 ≡ part m (a + 11) 1
    → dext (part w a 16) ≡ dext (part m a 16)
unfolding dext
dext_of_tx m w a same = ap (λ (v : ℕ). bit v 5) (command_same m w a same)

-- ---- where the descriptor at a ring's head lies
place_is : {l m h g i j : ℕ} → l ≡ m → h ≡ g → i ≡ j → h * 2 ^ 32 + l + 16 * i ≡ g * 2 ^ 32 + m + 16 * j
place_is {l = l} {m = m} {h = h} {g = g} {i = i} {j = j} low high index =
    ap (λ (v : ℕ). h * 2 ^ 32 + v + 16 * i) low
    ∙ ap (λ (v : ℕ). v * 2 ^ 32 + m + 16 * i) high
    ∙ ap (λ (v : ℕ). g * 2 ^ 32 + m + 16 * v) index

rx_at : (s t : State) → SameLooks s t rx_place
    → rx.descriptor_at (rx_control t) ≡ rx.descriptor_at (rx_control s)
rx_at s t looks = place_is looks.0 looks.1.0 looks.1.1.0

tx_at : (s t : State) → SameLooks s t tx_place
    → tx.place (tx_setup t.registers) ≡ tx.place (tx_setup s.registers)
tx_at s t looks = place_is looks.0 looks.1.0 looks.1.1.0

-- ---- which test of a table holds
abbrev Row : Type 0
Row = Bool × Refused

some_is : (x y : Refused) → Some x ≡ Some y → x ≡ y
some_is x y h = cc

-- the first test holds and gives the reason, or none of its
by_first : (b : Bool) (x r : Refused) (o : Option Refused) → (if b then Some x else o) ≡ Some r
    → ((b ≡ true) × (x ≡ r)) ⊎ ((b ≡ false) × (o ≡ Some r))
by_first true x r o h = inl (refl, some_is x r h)
by_first false x r o h = inr (refl, h)

-- a step that is refused is not idle
not_idle : (idle : Bool) (rows : List Row) (r : Refused) → first_of (unless_idle idle rows) ≡ Some r
    → first_of rows ≡ Some r
not_idle true rows r h = cc
not_idle false rows r h = h

pub busy : (idle : Bool) (rows : List Row) → idle ≡ false → first_of (unless_idle idle rows) ≡ first_of rows
busy true rows h = cc
busy false rows h = refl

none_is : {A : Type 0} (o : Option A) (b : Bool) → o ≡ None → is_some o ≡ b → b ≡ false
none_is o b none is = sym is ∙ ap is_some none

pub rx_busy : (t : State) → IsBusy t receives → rx.is_idle (rx_control t) t.fifo ≡ false
rx_busy t is = none_is _ _ is (rx_tests (rx_control t) t.fifo)

pub tx_busy : (t : State) → IsBusy t transmits → is_still (tx_control t) ≡ false
tx_busy t is = none_is _ _ is (tx_tests (tx_setup t.registers) (is_halted t))

-- ---- receive steps
abbrev rx_first : Bounds → ℕ → ℕ → Row
rx_first size head place = (is_past size place 16, RxDescriptor head place size)

abbrev rx_second : Bounds → ℕ → ℕ → ℕ → ℕ → ℕ → ℕ → ℕ → Row
rx_second size head place buffer room goes count n =
    (is_past size goes count, RxBuffer head place buffer room n size)

-- the first row is the same where these numbers are
abbrev behind : Row → List Row → Option Refused
behind row rows = first_of (row ∷ rows)

rx_first_same : {size z : Bounds} {place head p h : ℕ} (rows : List Row) → z ≡ size → p ≡ place → h ≡ head
    → behind (rx_first z h p) rows ≡ behind (rx_first size head place) rows
rx_first_same {size = size} {place = place} {p = p} {h = h} rows same at index =
    ap (λ (v : Bounds). behind (rx_first v h p) rows) same
    ∙ ap (λ (v : ℕ). behind (rx_first size h v) rows) at
    ∙ ap (λ (v : ℕ). behind (rx_first size v place) rows) index

-- a row that holds decides, whatever stands behind it
decides : (row : Row) (rows others : List Row) → row.0 ≡ true → behind row rows ≡ behind row others
decides row rows others holds =
    ap (λ (b : Bool). if b then Some row.1 else first_of rows) holds
    ∙ sym (ap (λ (b : Bool). if b then Some row.1 else first_of others) holds)

-- a row that does not hold leaves it to those behind it
passes : (row : Row) (rows : List Row) → row.0 ≡ false → behind row rows ≡ first_of rows
passes row rows fails = ap (λ (b : Bool). if b then Some row.1 else first_of rows) fails

buffer_bits : (x y : ℕ) → bit_and x 0x0203_0000 ≡ bit_and y 0x0203_0000 → buffer_size x ≡ buffer_size y
buffer_bits x y same =
    let size = λ (extended : Bool) (bsize : ℕ).
    if extended then slice_index (2048 ∷ 16384 ∷ 8192 ∷ 4096 ∷ []) bsize
    else slice_index (2048 ∷ 1024 ∷ 512 ∷ 256 ∷ []) bsize in
    ap (λ (b : Bool). size b (x / 2 ^ 16 % 4)) (has_same 0x0200_0000 x y (bits_within 0x0200_0000 0x0203_0000 x y refl same))
    ∙ ap (size (has y 0x0200_0000)) (field_same 2 16 x y (bits_within 0x0003_0000 0x0203_0000 x y refl same))

rx_all : {size z : Bounds} {head place buffer room goes count n h p b r g c k : ℕ} → z ≡ size → h ≡ head → p ≡ place
    → b ≡ buffer → r ≡ room → g ≡ goes → c ≡ count → k ≡ n
    → behind (rx_first z h p) (rx_second z h p b r g c k ∷ [])
    ≡ behind (rx_first size head place) (rx_second size head place buffer room goes count n ∷ [])
rx_all same index at address size goes count frame = rw (same, index, at, address, size, goes, count, frame) refl

buffer_same : (s t : State) → SameLooks s t rx_place
    → part t.memory (rx.descriptor_at (rx_control s) + 0) 8
    ≡ part s.memory (rx.descriptor_at (rx_control s) + 0) 8
    → rx.buffer_at (rx_control t) t.memory ≡ rx.buffer_at (rx_control s) s.memory
buffer_same s t looks octets =
    ap (λ (a : ℕ). little_number 8 (part t.memory a 16)) (rx_at s t looks)
    ∙ number_at_start s.memory t.memory (rx.descriptor_at (rx_control s)) 8 (omega arith) (omega arith) octets

abbrev rx_rows : State → List Row
rx_rows s = rx_table (rx_control s) s.base s.memory s.fifo

rx_descriptor : (s t : State) → bounds_of t ≡ bounds_of s → SameLooks s t rx_place → (r : Refused)
    → leaves s.base s.memory (rx.descriptor_at (rx_control s)) 16 ≡ true
    → first_of (rx_rows s) ≡ Some r → first_of (rx_rows t) ≡ Some r
rx_descriptor s t size looks r holds found =
    rx_first_same (drop 1 (rx_rows t)) size (rx_at s t looks) looks.1.1.0
    ∙ decides (rx_first (bounds_of s) (rx_setup s.registers).head (rx.descriptor_at (rx_control s)))
    (drop 1 (rx_rows t)) (drop 1 (rx_rows s)) holds
    ∙ found

rx_buffer_out : (s t : State) → t.profile ≡ s.profile → bounds_of t ≡ bounds_of s → (r : Refused)
    → SameLooks s t (refused_looks (RxBuffer (rx_setup s.registers).head (rx.descriptor_at (rx_control s))
    (rx.buffer_at (rx_control s) s.memory) (rx_setup s.registers).buffer (length (first s.fifo).octets)
    (bounds_of s)))
    → first_of (rx_rows s) ≡ Some r → first_of (rx_rows t) ≡ Some r
rx_buffer_out s t profile size r looks found =
    let room = buffer_bits _ _ looks.1.0 in
    let fifo = looks.1.1.0 in
    let place = looks.1.1.1 in
    let at = rx_at s t place in
    let buffer = buffer_same s t place looks.0 in
    let null : rx.is_null (rx_control t) (rx.descriptor (rx_control t) t.memory)
    ≡ rx.is_null (rx_control s) (rx.descriptor (rx_control s) s.memory)
    = λ i. is_null_at (profile i) (buffer i) in
    let goes : rx.place_of (rx_control t) (rx.descriptor (rx_control t) t.memory)
    ≡ rx.place_of (rx_control s) (rx.descriptor (rx_control s) s.memory)
    = λ i. if null i then at i else buffer i in
    let count : rx.count_of (rx_control t) (rx.descriptor (rx_control t) t.memory) t.fifo
    ≡ rx.count_of (rx_control s) (rx.descriptor (rx_control s) s.memory) s.fifo
    = λ i. if null i then 0 else min (room i) (rest (fifo i)) in
    rx_all size place.1.1.0 at buffer room goes count
    (ap (λ (f : Fifo). length (first f).octets) fifo)
    ∙ found

looks_as : (s t : State) (x r : Refused) → x ≡ r → SameLooks s t (refused_looks r) → SameLooks s t (refused_looks x)
looks_as s t x r same = subst (λ (y : Refused). SameLooks s t (refused_looks y)) (sym same)

stay_receiving : (s t : State) (r : Refused) → t.profile ≡ s.profile → why s receives ≡ Some r
    → SameLooks s t (refused_looks r)
    → bounds_of t ≡ bounds_of s → IsBusy t receives → why t receives ≡ Some r
stay_receiving s t r profile is looks size runs =
    let q = rx_control s in
    let found = not_idle (rx.is_idle q s.fifo) (rx_rows s) r is in
    busy (rx.is_idle (rx_control t) t.fifo) (rx_rows t) (rx_busy t runs)
    ∙ elim (by_first (leaves s.base s.memory (rx.descriptor_at q) 16) _ r _ found) [
      | inl here ↦ rx_descriptor s t size (looks_as s t _ r here.1 looks) r here.0 found
      | inr later ↦ elim (by_first (rx.is_outside q s.base s.memory s.fifo) _ r _ later.1) [
        | inl here ↦ rx_buffer_out s t profile size r (looks_as s t _ r here.1 looks) found
        | inr none ↦ let no = none.1 in cc
      ]
    ]

-- ---- transmit steps
abbrev tx_first : Bounds → ℕ → ℕ → Row
tx_first size head place = (is_past size place 16, TxDescriptor head place size)

abbrev tx_second : Bool → ℕ → ℕ → Row
tx_second extended head place = (extended, Extended head place)

abbrev tx_third : Profile → ℕ → ℕ → ℕ → ℕ → Row
tx_third p gathered n head place = (nat_lt 16380 (gathered + n) || is_over p n, too_long p head place n)

abbrev tx_fourth : Bounds → ℕ → ℕ → ℕ → ℕ → Row
tx_fourth size a n head place = (nat_lt 0 n && is_past size a n, TxBuffer head place a n size)

front_one : {size z : Bounds} {head place h p : ℕ} (rows : List Row) → z ≡ size → h ≡ head → p ≡ place
    → behind (tx_first z h p) rows ≡ behind (tx_first size head place) rows
front_one rows same index at = rw (same, index, at) refl

front_two : {size z : Bounds} {head place h p : ℕ} {extended e : Bool} (rows : List Row) → z ≡ size → h ≡ head → p ≡ place
    → e ≡ extended
    → behind (tx_first z h p) (tx_second e h p ∷ rows)
    ≡ behind (tx_first size head place) (tx_second extended head place ∷ rows)
front_two rows same index at format = rw (same, index, at, format) refl

front_three : {size z : Bounds} {x y : Profile} {head place gathered n h p g k : ℕ} {extended e : Bool} (rows : List Row)
    → z ≡ size → y ≡ x → h ≡ head → p ≡ place → e ≡ extended → g ≡ gathered → k ≡ n
    → behind (tx_first z h p) (tx_second e h p ∷ tx_third y g k h p ∷ rows)
    ≡ behind (tx_first size head place) (tx_second extended head place ∷ tx_third x gathered n head place ∷ rows)
front_three rows same profile index at format earlier long = rw (same, profile, index, at, format, earlier, long) refl

front_four : {size z : Bounds} {x y : Profile} {head place gathered n a h p g k b : ℕ} {extended e : Bool} → z ≡ size
    → y ≡ x → h ≡ head → p ≡ place → e ≡ extended → g ≡ gathered → k ≡ n → b ≡ a
    → behind (tx_first z h p) (tx_second e h p ∷ tx_third y g k h p ∷ tx_fourth z b k h p ∷ [])
    ≡ behind (tx_first size head place)
    (tx_second extended head place ∷ tx_third x gathered n head place ∷ tx_fourth size a n head place ∷ [])
front_four same profile index at format earlier long address =
    rw (same, profile, index, at, format, earlier, long, address) refl

abbrev octets_of : State → List ℕ
octets_of s = tx_octets s.profile (tx_setup s.registers) s.memory

abbrev tx_rows : State → List Row
tx_rows s = tx_table s.profile (tx_setup s.registers) (bounds_of s) s.gathered (octets_of s)

-- the descriptor at TDH of the first of two states, as it lies in the second one
abbrev there : State → State → List ℕ
there s t = part t.memory (tx.place (tx_setup s.registers)) 16

octets_there : (s t : State) → t.profile ≡ s.profile → SameLooks s t tx_place
    → octets_of t ≡ as_read s.profile (there s t)
octets_there s t profile looks = λ i. as_read (profile i) (part t.memory (tx_at s t looks i) 16)

-- each of the four tests, where it decides
abbrev one_of : State → Refused
one_of s = TxDescriptor (tx_setup s.registers).head (tx.place (tx_setup s.registers)) (bounds_of s)

abbrev two_of : State → Refused
two_of s = Extended (tx_setup s.registers).head (tx.place (tx_setup s.registers))

abbrev three_of : State → Refused
three_of s = too_long s.profile (tx_setup s.registers).head (tx.place (tx_setup s.registers)) (length_of (octets_of s))

abbrev four_of : State → Refused
four_of s =
    TxBuffer (tx_setup s.registers).head (tx.place (tx_setup s.registers)) (address (octets_of s))
    (length_of (octets_of s)) (bounds_of s)

abbrev is_one : State → Bool
is_one s = leaves s.base s.memory (tx.place (tx_setup s.registers)) 16

abbrev is_two : State → Bool
is_two s = dext (octets_of s)

abbrev is_three : State → Bool
is_three s = nat_lt 16380 (length s.gathered + length_of (octets_of s)) || is_over s.profile (length_of (octets_of s))

abbrev is_four : State → Bool
is_four s =
    nat_lt 0 (length_of (octets_of s)) && leaves s.base s.memory (address (octets_of s)) (length_of (octets_of s))

-- the first that holds, and its reason
abbrev First : State → Refused → Type 0
First s r =
    ((is_one s ≡ true) × (one_of s ≡ r))
    ⊎ (((is_two s ≡ true) × (two_of s ≡ r))
    ⊎ (((is_three s ≡ true) × (three_of s ≡ r)) ⊎ ((is_four s ≡ true) × (four_of s ≡ r))))

first_holds : (s : State) (r : Refused) → first_of (tx_rows s) ≡ Some r → First s r
first_holds s r found = elim (by_first (is_one s) (one_of s) r _ found) [
  | inl here ↦ inl here
  | inr later ↦ elim (by_first (is_two s) (two_of s) r _ later.1) [
    | inl here ↦ inr (inl here)
    | inr later ↦ elim (by_first (is_three s) (three_of s) r _ later.1) [
      | inl here ↦ inr (inr (inl here))
      | inr later ↦ elim (by_first (is_four s) (four_of s) r _ later.1) [
        | inl here ↦ inr (inr (inr here))
        | inr none ↦ let no = none.1 in cc
      ]
    ]
  ]
]

-- where the first test is the same
one_again : (s t : State) (r : Refused) → bounds_of t ≡ bounds_of s → SameLooks s t tx_place
    → is_one s ≡ true → first_of (tx_rows s) ≡ Some r → first_of (tx_rows t) ≡ Some r
one_again s t r size place holds found =
    front_one (drop 1 (tx_rows t)) size place.1.1.0 (tx_at s t place)
    ∙ decides (is_one s, one_of s) (drop 1 (tx_rows t)) (drop 1 (tx_rows s)) holds
    ∙ found

-- whether it is extended, by CMD
format_there : (s t : State) → t.profile ≡ s.profile → SameLooks s t tx_place
    → part t.memory (tx.place (tx_setup s.registers) + 11) 1 ≡ part s.memory (tx.place (tx_setup s.registers) + 11) 1
    → dext (octets_of t) ≡ dext (octets_of s)
format_there s t profile place octets =
    ap dext (octets_there s t profile place)
    ∙ dext_read s.profile (there s t)
    ∙ dext_of_tx s.memory t.memory (tx.place (tx_setup s.registers)) octets
    ∙ sym (dext_read s.profile (there s s))

-- the first two
two_again : (s t : State) (r : Refused) → t.profile ≡ s.profile → bounds_of t ≡ bounds_of s
    → SameLooks s t (refused_looks (two_of s)) → is_two s ≡ true → first_of (tx_rows s) ≡ Some r
    → first_of (tx_rows t) ≡ Some r
two_again s t r profile size looks holds found =
    let place = looks.1 in
    front_two (drop 2 (tx_rows t)) size place.1.1.0 (tx_at s t place) (format_there s t profile place looks.0)
    ∙ ap (λ (o : Option Refused). if is_one s then Some (one_of s) else o)
    (decides (is_two s, two_of s) (drop 2 (tx_rows t)) (drop 2 (tx_rows s)) holds)
    ∙ found

-- what is looked at of a descriptor with too many octets: its length alone in the first profile, its address too in the
-- second
long_place : (p : Profile) (s t : State) (i at n : ℕ) → SameLooks s t (refused_looks (too_long p i at n))
    → SameLooks s t tx_place
long_place Table s t i at n looks = looks.1
long_place Adapter s t i at n looks = looks.1

long_before : (p : Profile) (s t : State) (i at n : ℕ) → SameLooks s t (looks_before (too_long p i at n))
    → part t.memory (at + 11) 1 ≡ part s.memory (at + 11) 1
long_before Table s t i at n looks = looks.0
long_before Adapter s t i at n looks = looks.0

-- the address and the length, by the first ten octets
ten_alike : (p : Profile) (m w : List ℕ) (a : ℕ) → part w (a + 0) 10 ≡ part m (a + 0) 10
    → length_of (as_read p (part w a 16)) ≡ length_of (as_read p (part m a 16))
ten_alike p m w a octets =
    length_alike p (part w a 16) (part m a 16) (address_of_tx m w a octets)
    (length_of_tx m w a 0 10 (omega arith) (omega arith) (omega arith) octets)

long_by : (p : Profile) (s t : State) (i at n : ℕ) → SameLooks s t (refused_looks (too_long p i at n))
    → length_of (as_read p (part t.memory at 16)) ≡ length_of (as_read p (part s.memory at 16))
long_by Table s t i at n looks =
    ap length_of (read_plainly (part t.memory at 16))
    ∙ length_of_tx s.memory t.memory at 8 2 (omega arith) (omega arith) (omega arith) looks.0
    ∙ sym (ap length_of (read_plainly (part s.memory at 16)))
long_by Adapter s t i at n looks = ten_alike Adapter s.memory t.memory at looks.0

long_there : (s t : State) → t.profile ≡ s.profile → SameLooks s t (refused_looks (three_of s))
    → length_of (octets_of t) ≡ length_of (octets_of s)
long_there s t profile looks =
    ap length_of (octets_there s t profile (long_place s.profile s t _ _ _ looks)) ∙ long_by s.profile s t _ _ _ looks

-- the length, and the address, by the look at ten octets
length_there : (s t : State) → t.profile ≡ s.profile → SameLooks s t tx_place
    → part t.memory (tx.place (tx_setup s.registers) + 0) 10 ≡ part s.memory (tx.place (tx_setup s.registers) + 0) 10
    → length_of (octets_of t) ≡ length_of (octets_of s)
length_there s t profile place octets =
    ap length_of (octets_there s t profile place)
    ∙ ten_alike s.profile s.memory t.memory (tx.place (tx_setup s.registers)) octets

address_there : (s t : State) → t.profile ≡ s.profile → SameLooks s t tx_place
    → part t.memory (tx.place (tx_setup s.registers) + 0) 10 ≡ part s.memory (tx.place (tx_setup s.registers) + 0) 10
    → address (octets_of t) ≡ address (octets_of s)
address_there s t profile place octets =
    ap address (octets_there s t profile place)
    ∙ address_read s.profile (there s t)
    ∙ address_of_tx s.memory t.memory (tx.place (tx_setup s.registers)) octets
    ∙ sym (address_read s.profile (there s s))

-- the first three
three_again : (s t : State) (r : Refused) → t.profile ≡ s.profile → bounds_of t ≡ bounds_of s
    → length t.gathered ≡ length s.gathered → SameLooks s t (refused_looks (three_of s))
    → SameLooks s t (looks_before (three_of s)) → is_three s ≡ true → first_of (tx_rows s) ≡ Some r
    → first_of (tx_rows t) ≡ Some r
three_again s t r profile size earlier looks before holds found =
    let place = long_place s.profile s t _ _ _ looks in
    let behind_two = λ (o : Option Refused). if is_one s then Some (one_of s) else if is_two s then Some (two_of s) else o in
    front_three (drop 3 (tx_rows t)) size profile place.1.1.0 (tx_at s t place)
    (format_there s t profile place (long_before s.profile s t _ _ _ before)) earlier (long_there s t profile looks)
    ∙ ap behind_two (decides (is_three s, three_of s) (drop 3 (tx_rows t)) (drop 3 (tx_rows s)) holds)
    ∙ found

-- all four
four_again : (s t : State) (r : Refused) → t.profile ≡ s.profile → bounds_of t ≡ bounds_of s
    → length t.gathered ≡ length s.gathered → SameLooks s t (refused_looks (four_of s))
    → SameLooks s t (looks_before (four_of s)) → first_of (tx_rows s) ≡ Some r → first_of (tx_rows t) ≡ Some r
four_again s t r profile size earlier looks before found =
    let place = looks.1 in
    front_four size profile place.1.1.0 (tx_at s t place) (format_there s t profile place before.0) earlier
    (length_there s t profile place looks.0) (address_there s t profile place looks.0)
    ∙ found

before_as : (s t : State) (x r : Refused) → x ≡ r → SameLooks s t (looks_before r) → SameLooks s t (looks_before x)
before_as s t x r same = subst (λ (y : Refused). SameLooks s t (looks_before y)) (sym same)

stay_transmitting : (s t : State) (r : Refused) → why s transmits ≡ Some r → SameLooks s t (refused_looks r)
    → SameLooks s t (looks_before r) → t.profile ≡ s.profile → bounds_of t ≡ bounds_of s
    → length t.gathered ≡ length s.gathered → IsBusy t transmits → why t transmits ≡ Some r
stay_transmitting s t r is looks before profile size earlier runs =
    let found = not_idle (is_still (tx_control s)) (tx_rows s) r is in
    busy (is_still (tx_control t)) (tx_rows t) (tx_busy t runs)
    ∙ elim (first_holds s r found) [
      | inl one ↦ one_again s t r size (looks_as s t _ r one.1 looks) one.0 found
      | inr later ↦ elim later [
        | inl two ↦ two_again s t r profile size (looks_as s t _ r two.1 looks) two.0 found
        | inr later ↦ elim later [
          | inl three ↦ three_again s t r profile size earlier (looks_as s t _ r three.1 looks)
              (before_as s t _ r three.1 before) three.0 found
          | inr four ↦ four_again s t r profile size earlier (looks_as s t _ r four.1 looks)
              (before_as s t _ r four.1 before) found
        ]
      ]
    ]

-- ---- each event, for the same reason
pub stays_refused_so : (s t : State) (e : Event) (r : Refused) → why s e ≡ Some r → SameLooks s t (refused_looks r)
    → SameLooks s t (looks_before r) → t.profile ≡ s.profile → bounds_of t ≡ bounds_of s → length t.gathered ≡ length s.gathered
    → IsBusy t e → why t e ≡ Some r
stays_refused_so s t (reads o) r is looks before profile size earlier runs =
    ap (λ (p : Profile). first_of (access_table p o)) profile ∙ is
stays_refused_so s t (writes o v) r is looks before profile size earlier runs =
    ap (λ (p : Profile). first_of (access_table p o)) profile ∙ is
stays_refused_so s t (pokes a octets) r is looks before profile size earlier runs =
    ap (λ (v : Bounds). first_of (write_table v a (length octets))) size ∙ is
stays_refused_so s t (arrives f) r is looks before profile size earlier runs = is
stays_refused_so s t (links up) r is looks before profile size earlier runs = cc
stays_refused_so s t receives r is looks before profile size earlier runs = stay_receiving s t r profile is looks size runs
stays_refused_so s t transmits r is looks before profile size earlier runs =
    stay_transmitting s t r is looks before profile size earlier runs

-- ---- for whatever reason
some_of : (o : Option Refused) (r : Refused) → o ≡ Some r → is_some o ≡ true
some_of o r is = ap is_some is

or_true : (b : Bool) → (b || true) ≡ true
or_true true = refl
or_true false = refl

-- more octets that are gathered are too many as well
more : (g h n : ℕ) (over : Bool) → g ≤ h → (nat_lt 16380 (g + n) || over) ≡ true → (nat_lt 16380 (h + n) || over) ≡ true
more g h n over less holds = elim (cases_lt 16380 (g + n)) [
  | inl many ↦
      let yes : nat_lt 16380 (h + n) ≡ true = grind (arith, nat_tests) in ap (λ (b : Bool). b || over) yes
  | inr few ↦
      let no : nat_lt 16380 (g + n) ≡ false = grind (arith, nat_tests) in
      let one : over ≡ true = sym (ap (λ (b : Bool). b || over) no) ∙ holds in
      ap (λ (b : Bool). nat_lt 16380 (h + n) || b) one ∙ or_true (nat_lt 16380 (h + n))
]

three_holds : (s t : State) → t.profile ≡ s.profile → length s.gathered ≤ length t.gathered
    → SameLooks s t (refused_looks (three_of s)) → is_three s ≡ true → is_some (first_of (tx_rows t)) ≡ true
three_holds s t profile earlier looks holds =
    some_where (tx_rows t) 2 _ refl
    (ap (λ (n : ℕ). nat_lt 16380 (length t.gathered + n) || is_over t.profile n) (long_there s t profile looks)
    ∙ ap (λ (p : Profile). nat_lt 16380 (length t.gathered + length_of (octets_of s)) || is_over p (length_of (octets_of s))) profile
    ∙ more (length s.gathered) (length t.gathered) (length_of (octets_of s)) (is_over s.profile (length_of (octets_of s)))
    earlier holds)

four_holds : (s t : State) → t.profile ≡ s.profile → bounds_of t ≡ bounds_of s
    → SameLooks s t (refused_looks (four_of s)) → is_four s ≡ true → is_some (first_of (tx_rows t)) ≡ true
four_holds s t profile size looks holds =
    let d = octets_of t in
    let n = length_there s t profile looks.1 looks.0 in
    let a = address_there s t profile looks.1 looks.0 in
    some_where (tx_rows t) 3 _ refl
    (ap (λ (v : ℕ). nat_lt 0 v && is_past (bounds_of t) (address d) v) n
    ∙ ap (λ (v : ℕ). nat_lt 0 (length_of (octets_of s)) && is_past (bounds_of t) v (length_of (octets_of s))) a
    ∙ ap (λ (v : Bounds). nat_lt 0 (length_of (octets_of s)) && is_past v (address (octets_of s)) (length_of (octets_of s)))
    size
    ∙ holds)

keep_transmitting : (s t : State) (r : Refused) → why s transmits ≡ Some r → SameLooks s t (refused_looks r)
    → t.profile ≡ s.profile → bounds_of t ≡ bounds_of s → length s.gathered ≤ length t.gathered → IsBusy t transmits
    → is_some (why t transmits) ≡ true
keep_transmitting s t r is looks profile size earlier runs =
    let found = not_idle (is_still (tx_control s)) (tx_rows s) r is in
    ap is_some (busy (is_still (tx_control t)) (tx_rows t) (tx_busy t runs))
    ∙ elim (first_holds s r found) [
      | inl one ↦ some_of _ r (one_again s t r size (looks_as s t _ r one.1 looks) one.0 found)
      | inr later ↦ elim later [
        | inl two ↦ some_of _ r (two_again s t r profile size (looks_as s t _ r two.1 looks) two.0 found)
        | inr later ↦ elim later [
          | inl three ↦ three_holds s t profile earlier (looks_as s t _ r three.1 looks) three.0
          | inr four ↦ four_holds s t profile size (looks_as s t _ r four.1 looks) four.0
        ]
      ]
    ]

-- where there is a reason, the event is refused for it
refused_so : (t : State) (e : Event) (o : Option Refused) → why t e ≡ o → is_some o ≡ true
    → (again : Refusal) × (step t e ≡ Err again)
refused_so t e None is some = cc
refused_so t e (Some r) is some =
    (refusal_of r, (refused_with_reason t e (refusal_of r)).1 (ap (option_map refusal_of) is))

keeps : (s t : State) (e : Event) (r : Refused) → why s e ≡ Some r → SameLooks s t (refused_looks r)
    → t.profile ≡ s.profile → bounds_of t ≡ bounds_of s → length s.gathered ≤ length t.gathered → IsBusy t e
    → is_some (why t e) ≡ true
keeps s t (reads o) r is looks profile size earlier runs =
    ap is_some (ap (λ (p : Profile). first_of (access_table p o)) profile ∙ is)
keeps s t (writes o v) r is looks profile size earlier runs =
    ap is_some (ap (λ (p : Profile). first_of (access_table p o)) profile ∙ is)
keeps s t (pokes a octets) r is looks profile size earlier runs =
    ap is_some (ap (λ (v : Bounds). first_of (write_table v a (length octets))) size ∙ is)
keeps s t (arrives f) r is looks profile size earlier runs = ap is_some is
keeps s t (links up) r is looks profile size earlier runs = cc
keeps s t receives r is looks profile size earlier runs = ap is_some (stay_receiving s t r profile is looks size runs)
keeps s t transmits r is looks profile size earlier runs =
    keep_transmitting s t r is looks profile size earlier runs

pub stays_refused : (s t : State) (e : Event) (r : Refused) → why s e ≡ Some r → SameLooks s t (refused_looks r)
    → t.profile ≡ s.profile → bounds_of t ≡ bounds_of s → length s.gathered ≤ length t.gathered → IsBusy t e
    → (again : Refusal) × (step t e ≡ Err again)
stays_refused s t e r is looks profile size earlier runs =
    refused_so t e (why t e) refl (keeps s t e r is looks profile size earlier runs)
