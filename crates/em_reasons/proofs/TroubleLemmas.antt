-- What is wrong with the descriptor at a ring's head, beside what the engine does.
use Rattle.std.proofs.Common.{◌≡◌, ◌∙◌, ◌+◌, ◌≤◌, ℕ, Bool, true, false, List, [], ◌∷◌, Option, Some, None, refl}
use Rattle.std.proofs.Common.{length, sym, ap, subst, arith}
use Rattle.std.specs.Prelude.{◌==◌, ◌&&◌, ◌||◌, nat_le, nat_lt, min, not, option_map, if◌then◌else◌}
use Rattle.std.proofs.lemmas.Bool.Decides.{nat_tests}
use Rattle.em_mem.specs.Memory.{leaves, part}
use Rattle.em_mem.proofs.NeedsLaws.{lies_by_test, stays_in}
use Rattle.em_regs.specs.declared.profile.Profile.{Profile}
use Rattle.em_regs.specs.declared.ring.Ring.{Ring}
use Rattle.em_regs.specs.Ring as ring
use Rattle.em_regs.specs.Setup.{tx_setup}
use Rattle.em_rx.specs.Fifo.{rest}
use Rattle.em_rx.specs.Receive as rx
use Rattle.em_rx.specs.Control.{is_null_at}
use Rattle.em_tx.specs.Control.{is_over, is_still}
use Rattle.em_tx.specs.Descriptor.{address, dext, length_of}
use Rattle.em_tx.specs.Ring as tx
use Rattle.em_step.specs.Engines.{is_halted, rx_control, tx_control}
use Rattle.em_step.specs.Event.{receives, transmits}
use Rattle.em_step.specs.State.{State}
use Rattle.em_step.specs.Step.{step}
use Rattle.em_step.specs.declared.refusal.Refusal.{Refusal}
use Rattle.em_step.specs.declared.refusal.Refusal.TheVariants as refusal
use Rattle.em_inspect.specs.declared.ring.Owner.{Owner}
use Rattle.em_inspect.specs.declared.ring.Owner.TheVariants.{Adapter, Driver}
use Rattle.em_inspect.specs.declared.ring.SidedRing.{SidedRing}
use Rattle.em_inspect.specs.declared.trouble.Trouble.{Trouble}
use Rattle.em_inspect.specs.declared.trouble.Trouble.TheVariants as trouble
use Rattle.em_inspect.specs.Extent.{overlaps}
use Rattle.em_inspect.specs.Ring.{extent_of, fields_in, is_adapters, owner_of, rx_ring, tx_ring}
use Rattle.em_inspect.specs.Trouble.{buffer_of, is_live, live_trouble, lowest_over, or_else, trouble_in}
use Rattle.em_reasons.specs.declared.refused.Bounds.{Bounds}
use Rattle.em_reasons.specs.declared.refused.Refused.TheVariants.{RxDescriptor, RxBuffer, TxDescriptor, TxBuffer}
use Rattle.em_reasons.specs.declared.refused.Refused.TheVariants.{Extended}
use Rattle.em_reasons.specs.Foretold.{FillsBuffer, HasFew, IsLongAlone, foretold, read, refusal_in, rx_trouble}
use Rattle.em_reasons.specs.Foretold.{tx_trouble}
use Rattle.em_reasons.proofs.ReadLemmas.{address_read, dext_read, length_by_null}
use Rattle.em_reasons.specs.Refused.{IsBusy, bounds_of, refusal_of, rx_table, too_long, tx_table}
use Rattle.em_reasons.proofs.RefusalLemmas.{long_refusal, refusal_said, said}
use Rattle.em_reasons.proofs.RefusedStay.{busy, rx_busy, tx_busy}

-- ---- the descriptor at the head of a ring that is not idle is the adapter's
none_of : (a b c d : Bool) → (a || b || c || d) ≡ false
    → (a ≡ false) × ((b ≡ false) × ((c ≡ false) × (d ≡ false)))
none_of false false false false h = (refl, (refl, (refl, refl)))
none_of true b c d h = cc
none_of false true c d h = cc
none_of false false true d h = cc
none_of false false false true h = cc

below : (n k : ℕ) → nat_le n k ≡ false → nat_lt k n ≡ true
below n k h = grind (arith, nat_tests)

self : (n : ℕ) → nat_le n n ≡ true
self n = grind (arith, nat_tests)

apart : (h t : ℕ) → (h == t) ≡ false → nat_le h t ≡ true → nat_lt h t ≡ true
apart h t other le = grind (arith, nat_tests)

adapters_by : (head tail from at before : Bool) → head ≡ true → tail ≡ true → at ≡ true
    → (from ≡ true → before ≡ true)
    → ((head && tail && head) && (if from then at && before else at || before)) ≡ true
adapters_by true true true true before a b c d = d refl
adapters_by true true false true before a b c d = refl
adapters_by false tail from at before a b c d = cc
adapters_by true false from at before a b c d = cc
adapters_by true true from false before a b c d = cc

head_is_adapters : (r : Ring) → ring.is_idle r ≡ false → is_adapters r r.head ≡ true
head_is_adapters r runs =
    let four = none_of (not r.enabled) (nat_le r.count r.head) (nat_le r.count r.tail) (r.head == r.tail) runs in
    adapters_by (nat_lt r.head r.count) (nat_lt r.tail r.count) (nat_le r.head r.tail) (nat_le r.head r.head)
    (nat_lt r.head r.tail) (below r.count r.head four.1.0) (below r.count r.tail four.1.1.0) (self r.head)
    (apart r.head r.tail four.1.1.1)

owner_by : (b : Bool) → b ≡ true → (if b then Adapter else Driver) ≡ Adapter
owner_by true h = refl
owner_by false h = cc

first_false : (a b : Bool) → (a || b) ≡ false → a ≡ false
first_false true b h = cc
first_false false b h = refl

-- what is wrong with it: it lies outside memory, or what is wrong with a live one
of_octets : (r : SidedRing) (base : ℕ) (m : List ℕ) (i : ℕ) (outside : Bool) (x : List ℕ)
    → owner_of r.setup i ≡ Adapter → trouble_in r base m i (option_map (fields_in r.side) (if outside then None else Some x))
    ≡ (if outside then Some trouble.Outside else live_trouble r base m i (fields_in r.side x))
of_octets r base m i true x is = refl
of_octets r base m i false x is =
    ap (λ (o : Owner). if is_live o (fields_in r.side x).bits then live_trouble r base m i (fields_in r.side x) else None) is

-- ---- the receive engine
abbrev rx_said : Bool → Bool → Option Refusal
rx_said outside buffer = if outside then Some refusal.DmaRange else if buffer then Some refusal.DmaRange else None

rx_rows_said : (a b : Bool) (i at : ℕ) (size : Bounds) (place n room : ℕ)
    → said ((a, RxDescriptor i at size) ∷ (b, RxBuffer i at place room n size) ∷ []) ≡ rx_said a b
rx_rows_said true b i at size place n room = refl
rx_rows_said false true i at size place n room = refl
rx_rows_said false false i at size place n room = refl

abbrev buffer_told : Bool → Bool → Option ℕ → Option Trouble
buffer_told outside over lowest =
    if outside then Some trouble.BufferOutside
    else if over then Some trouble.OverRing
    else option_map trouble.OverBuffer lowest

-- a buffer over another one foretells nothing
over_nothing : (over : Bool) (lowest : Option ℕ) → foretold (buffer_told false over lowest) ≡ None
over_nothing true lowest = refl
over_nothing false None = refl
over_nothing false (Some other) = refl

-- what is told of a descriptor, by whether octets go into its buffer
abbrev told_unless : Bool → Option Trouble → Option Trouble
told_unless null told = if null then None else told

rx_by : (a buffer null out over : Bool) (lowest : Option ℕ) → (a ≡ false → null ≡ true → buffer ≡ false)
    → (a ≡ false → null ≡ false → out ≡ false → buffer ≡ false)
    → ((if a then Some trouble.Outside else told_unless null (buffer_told out over lowest)) ≡ Some trouble.BufferOutside
    → null ≡ false → out ≡ true → buffer ≡ true)
    → rx_said a buffer
    ≡ foretold (if a then Some trouble.Outside else told_unless null (buffer_told out over lowest))
rx_by true buffer null out over lowest none less full = refl
rx_by false buffer true out over lowest none less full =
    ap (λ (b : Bool). if b then Some refusal.DmaRange else None) (none refl refl)
rx_by false buffer false true over lowest none less full =
    ap (λ (b : Bool). if b then Some refusal.DmaRange else None) (full refl refl refl)
rx_by false buffer false false over lowest none less full =
    ap (λ (b : Bool). if b then Some refusal.DmaRange else None) (less refl refl refl) ∙ sym (over_nothing over lowest)

part_within : (base : ℕ) (m : List ℕ) (a room left : ℕ) → leaves base m a room ≡ false
    → leaves base m a (min room left) ≡ false
part_within base m a room left h =
    let held = lies_by_test base m a room h in
    stays_in base m a (min room left) (record { from = held.from; to = omega (arith, held.to) })

part_whole : (base : ℕ) (m : List ℕ) (a room left : ℕ) → room ≤ left → leaves base m a room ≡ true
    → leaves base m a (min room left) ≡ true
part_whole base m a room left fills h =
    let whole : min room left ≡ room = omega (arith, fills) in ap (λ (n : ℕ). leaves base m a n) whole ∙ h

-- where the octets go, by whether any do
abbrev goes_past : ℕ → List ℕ → ℕ → ℕ → ℕ → ℕ → Bool → Bool
goes_past base m at a room left null =
    leaves base m (if null then at else a) (if null then 0 else min room left)

none_if : (base : ℕ) (m : List ℕ) (at a room left : ℕ) (null : Bool) → leaves base m at 16 ≡ false
    → null ≡ true → goes_past base m at a room left null ≡ false
none_if base m at a room left true whole is =
    let held = lies_by_test base m at 16 whole in
    stays_in base m at 0 (record { from = held.from; to = omega (arith, held.to) })
none_if base m at a room left false whole is = cc

less_if : (base : ℕ) (m : List ℕ) (at a room left : ℕ) (null : Bool) → null ≡ false
    → leaves base m a room ≡ false → goes_past base m at a room left null ≡ false
less_if base m at a room left true takes h = cc
less_if base m at a room left false takes h = part_within base m a room left h

full_if : (base : ℕ) (m : List ℕ) (at a room left : ℕ) (null : Bool) → null ≡ false → room ≤ left
    → leaves base m a room ≡ true → goes_past base m at a room left null ≡ true
full_if base m at a room left true takes fills h = cc
full_if base m at a room left false takes fills h = part_whole base m a room left fills h

-- what is told of the descriptor at RDH, in the cases of the engine
abbrev rx_told : State → Option Trouble
rx_told s =
    let c = rx_control s in
    let q = c.setup in
    let r = rx_ring s.profile q in
    let buffer = buffer_of r.side (fields_in r.side (part s.memory (rx.descriptor_at c) 16)) in
    if leaves s.base s.memory (rx.descriptor_at c) 16 then Some trouble.Outside
    else told_unless (rx.is_null c (rx.descriptor c s.memory))
    (buffer_told (leaves s.base s.memory (rx.buffer_at c s.memory) q.buffer) (overlaps buffer (extent_of r.setup))
    (lowest_over r s.base s.memory q.head buffer))

rx_told_so : (s : State) → IsBusy s receives → rx_trouble s ≡ rx_told s
rx_told_so s runs =
    let c = rx_control s in
    let q = c.setup in
    let r = rx_ring s.profile q in
    let on = first_false _ _ (rx_busy s runs) in
    of_octets r s.base s.memory q.head (leaves s.base s.memory (rx.descriptor_at c) 16)
    (part s.memory (rx.descriptor_at c) 16) (owner_by _ (head_is_adapters r.setup on))

pub receives_as_told : (s : State) → IsBusy s receives
    → (rx_trouble s ≡ Some trouble.BufferOutside → FillsBuffer s)
    → refusal_in (step s receives) ≡ foretold (rx_trouble s)
receives_as_told s runs fills =
    let c = rx_control s in
    let at : ℕ = rx.descriptor_at c in
    let room : ℕ = c.setup.buffer in
    let a : ℕ = rx.buffer_at c s.memory in
    let null : Bool = rx.is_null c (rx.descriptor c s.memory) in
    let told = rx_told_so s runs in
    sym (refusal_said s receives)
    ∙ ap (option_map refusal_of) (busy (rx.is_idle c s.fifo) (rx_table c s.base s.memory s.fifo) (rx_busy s runs))
    ∙ rx_rows_said (leaves s.base s.memory at 16) (rx.is_outside c s.base s.memory s.fifo) _ _ _ _ _ _
    ∙ rx_by _ _ null (leaves s.base s.memory a room) _ _ (none_if s.base s.memory at a room (rest s.fifo) null)
    (λ inside. less_if s.base s.memory at a room (rest s.fifo) null)
    (λ is takes. full_if s.base s.memory at a room (rest s.fifo) null takes (fills (told ∙ is)))
    ∙ ap foretold (sym told)

-- ---- the transmit engine
abbrev tx_said : Bool → Bool → Bool → Bool → Option Refusal
tx_said outside extended long buffer =
    if outside then Some refusal.DmaRange
    else if extended then Some refusal.Extended
    else if long then Some refusal.TooLong
    else if buffer then Some refusal.DmaRange
    else None

tx_rows_said : (p : Profile) (a e l b : Bool) (i at : ℕ) (size : Bounds) (n place : ℕ)
    → said ((a, TxDescriptor i at size) ∷ (e, Extended i at) ∷ (l, too_long p i at n) ∷ (b, TxBuffer i at place n size) ∷ [])
    ≡ tx_said a e l b
tx_rows_said p true e l b i at size n place = refl
tx_rows_said p false true l b i at size n place = refl
tx_rows_said p false false true b i at size n place = ap Some (long_refusal p i at n)
tx_rows_said p false false false true i at size n place = refl
tx_rows_said p false false false false i at size n place = refl

or_false : (b : Bool) → (b || false) ≡ b
or_false true = refl
or_false false = refl

abbrev sent_told : Bool → Bool → Bool → Option Trouble → Option Trouble
sent_told extended empty long buffer =
    if extended then Some trouble.Extended
    else if empty then Some trouble.NoLength
    else if long then Some trouble.TooLong
    else buffer

tx_by : (a e empty long out over all some : Bool) (lowest : Option ℕ) → (empty ≡ true → some ≡ false)
    → (empty ≡ false → some ≡ true) → (empty ≡ true → long ≡ false) → (all ≡ true → long ≡ true)
    → (long ≡ true → all ≡ true)
    → tx_said a e all (some && out)
    ≡ foretold (if a then Some trouble.Outside else sent_told e empty long (buffer_told out over lowest))
tx_by true e empty long out over all some lowest none any short alone more = refl
tx_by false true empty long out over all some lowest none any short alone more = refl
tx_by false false true long out over true some lowest none any short alone more =
    let no : true ≡ false = sym (alone refl) ∙ short refl in cc
tx_by false false true long out over false some lowest none any short alone more =
    ap (λ (b : Bool). if b && out then Some refusal.DmaRange else None) (none refl)
tx_by false false false true out over all some lowest none any short alone more =
    ap (λ (b : Bool). if b then Some refusal.TooLong else if some && out then Some refusal.DmaRange else None) (more refl)
tx_by false false false false out over true some lowest none any short alone more =
    let no : true ≡ false = sym (alone refl) in cc
tx_by false false false false true over false some lowest none any short alone more =
    ap (λ (b : Bool). if b && true then Some refusal.DmaRange else None) (any refl)
tx_by false false false false false over false some lowest none any short alone more =
    ap (λ (b : Bool). if b && false then Some refusal.DmaRange else None) (any refl) ∙ sym (over_nothing over lowest)

-- by whether the descriptor has a buffer
abbrev null_told : Bool → Bool → Option Trouble → Option Trouble
null_told null extended told = if null then (if extended then Some trouble.Extended else None) else told

sent_by : (e null empty long : Bool) (buffer : Option Trouble)
    → or_else
    (
    if e then Some trouble.Extended
    else if null then None
    else if empty then Some trouble.NoLength
    else if long then Some trouble.TooLong
    else None
    )
    (if null then None else buffer)
    ≡ null_told null e (sent_told e empty long buffer)
sent_by true true empty long buffer = refl
sent_by true false empty long buffer = refl
sent_by false true empty long buffer = refl
sent_by false false true long buffer = refl
sent_by false false false true buffer = refl
sent_by false false false false buffer = refl

-- a descriptor with no buffer is refused where it is extended, and not else
null_said : (a e all out : Bool) → (all ≡ true → false ≡ true)
    → tx_said a e all (false && out) ≡ foretold (if a then Some trouble.Outside else null_told true e None)
null_said true e all out none = refl
null_said false true all out none = refl
null_said false false true out none = let no : false ≡ true = none refl in cc
null_said false false false out none = refl

empty_none : (n : ℕ) → (n == 0) ≡ true → nat_lt 0 n ≡ false
empty_none n h = grind (arith, nat_tests)

empty_any : (n : ℕ) → (n == 0) ≡ false → nat_lt 0 n ≡ true
empty_any n h = grind (arith, nat_tests)

empty_short : (n : ℕ) → (n == 0) ≡ true → nat_lt 16380 n ≡ false
empty_short n h = grind (arith, nat_tests)

longer : (g n : ℕ) → nat_lt 16380 n ≡ true → nat_lt 16380 (g + n) ≡ true
longer g n h = grind (arith, nat_tests)

-- of it nothing else is told
null_any : (a e : Bool) (told : Option Trouble)
    → foretold (if a then Some trouble.Outside else null_told true e None)
    ≡ foretold (if a then Some trouble.Outside else null_told true e told)
null_any a e told = refl

-- the refusal of a descriptor with so many octets, with those that are gathered, and what is told of it
tx_by_null : (a e null over : Bool) (base : ℕ) (m : List ℕ) (at g n : ℕ) (lowest : Option ℕ)
    → (let k : ℕ = if null then 0 else n in nat_lt 16380 (g + k) ≡ true → nat_lt 16380 k ≡ true)
    → (let k : ℕ = if null then 0 else n in
    tx_said a e (nat_lt 16380 (g + k)) (nat_lt 0 k && leaves base m at k))
    ≡ foretold (if a then Some trouble.Outside
    else null_told null e (sent_told e (n == 0) (nat_lt 16380 n) (buffer_told (leaves base m at n) over lowest)))
tx_by_null a e true over base m at g n lowest alone =
    null_said a e (nat_lt 16380 (g + 0)) (leaves base m at 0) alone
    ∙ null_any a e (sent_told e (n == 0) (nat_lt 16380 n) (buffer_told (leaves base m at n) over lowest))
tx_by_null a e false over base m at g n lowest alone =
    tx_by a e (n == 0) (nat_lt 16380 n) (leaves base m at n) over _ (nat_lt 0 n) lowest (empty_none n) (empty_any n)
    (empty_short n) alone (longer g n)

-- the octets of the descriptor at TDH
abbrev there : State → List ℕ
there s = part s.memory (tx.place (tx_setup s.registers)) 16

abbrev tx_told : State → Option Trouble
tx_told s =
    let q = tx_setup s.registers in
    let r = tx_ring s.profile q in
    let d = there s in
    let buffer = buffer_of r.side (fields_in r.side d) in
    if leaves s.base s.memory (tx.place q) 16 then Some trouble.Outside
    else null_told (is_null_at s.profile (address d)) (dext d)
    (sent_told (dext d) (length_of d == 0) (nat_lt 16380 (length_of d))
    (buffer_told (leaves s.base s.memory (address d) (length_of d)) (overlaps buffer (extent_of r.setup))
    (lowest_over r s.base s.memory q.head buffer)))

tx_told_so : (s : State) → IsBusy s transmits → tx_trouble s ≡ tx_told s
unfolding dext
tx_told_so s runs =
    let q = tx_setup s.registers in
    let r = tx_ring s.profile q in
    let d = there s in
    let outside = leaves s.base s.memory (tx.place q) 16 in
    let buffer = buffer_of r.side (fields_in r.side d) in
    of_octets r s.base s.memory q.head outside d
    (owner_by _ (head_is_adapters r.setup (first_false (tx.is_idle q) (is_halted s) (tx_busy s runs))))
    ∙ ap (λ (o : Option Trouble). if outside then Some trouble.Outside else o)
    (sent_by (dext d) (is_null_at s.profile (address d)) (length_of d == 0) (nat_lt 16380 (length_of d))
    (buffer_told (leaves s.base s.memory (address d) (length_of d)) (overlaps buffer (extent_of r.setup))
    (lowest_over r s.base s.memory q.head buffer)))

pub transmits_as_told : (s : State) → IsBusy s transmits → IsLongAlone s → HasFew s
    → refusal_in (step s transmits) ≡ foretold (tx_trouble s)
transmits_as_told s runs alone has_few =
    let q = tx_setup s.registers in
    let d = there s in
    let x = read s in
    let null : Bool = is_null_at s.profile (address d) in
    let g : ℕ = length s.gathered in
    let a : Bool = leaves s.base s.memory (tx.place q) 16 in
    let long : length_of x ≡ (if null then 0 else length_of d) = length_by_null s.profile d in
    let few : (nat_lt 16380 (g + length_of x) || is_over s.profile (length_of x)) ≡ nat_lt 16380 (g + length_of x)
    = ap (λ (b : Bool). nat_lt 16380 (g + length_of x) || b) has_few ∙ or_false _ in
    sym (refusal_said s transmits)
    ∙ ap (option_map refusal_of)
    (busy (is_still (tx_control s)) (tx_table s.profile q (bounds_of s) s.gathered x) (tx_busy s runs))
    ∙ tx_rows_said s.profile a (dext x) (nat_lt 16380 (g + length_of x) || is_over s.profile (length_of x))
    (nat_lt 0 (length_of x) && leaves s.base s.memory (address x) (length_of x)) _ _ _ _ _
    ∙ ap (λ (b : Bool). tx_said a (dext x) b (nat_lt 0 (length_of x) && leaves s.base s.memory (address x) (length_of x))) few
    ∙ (
    λ i. tx_said a (dext_read s.profile d i) (nat_lt 16380 (g + long i))
    (nat_lt 0 (long i) && leaves s.base s.memory (address_read s.profile d i) (long i))
    )
    ∙ tx_by_null a (dext d) null _ s.base s.memory (address d) g (length_of d) _
    (subst (λ (k : ℕ). nat_lt 16380 (g + k) ≡ true → nat_lt 16380 k ≡ true) long alone)
    ∙ ap foretold (sym (tx_told_so s runs))
