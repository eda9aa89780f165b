-- The tables of refusals beside the steps.
use Rattle.std.proofs.Common.{◌≡◌, ℕ, Bool, true, false, List, length, Option, Some, None, Result, Ok, Err, refl}
use Rattle.std.proofs.Common.{sym, ap}
use Rattle.std.proofs.Common.{◌∙◌}
use Rattle.std.specs.Prelude.{[], ◌∷◌, ◌+◌, ◌*◌, ◌==◌, ◌&&◌, ◌||◌, ◌↔◌, nat_lt, is_none, not, option_map}
use Rattle.std.specs.Prelude.{if◌then◌else◌}
use Rattle.em_mem.specs.Memory.{leaves, part}
use Rattle.em_regs.specs.declared.profile.Profile.{Profile}
use Rattle.em_regs.specs.declared.profile.Profile.TheVariants.{Table, Adapter}
use Rattle.em_regs.specs.declared.reg.Reg.{Reg}
use Rattle.em_regs.specs.declared.setup.RxSetup.{RxSetup}
use Rattle.em_regs.specs.declared.setup.TxSetup.{TxSetup}
use Rattle.em_regs.specs.Setup.{rx_setup, tx_setup}
use Rattle.em_regs.specs.Table.{answers_at, reg_of}
use Rattle.em_rx.specs.Descriptor.{descriptor_of}
use Rattle.em_rx.specs.Fifo.{Fifo, first}
use Rattle.em_rx.specs.Receive as rx
use Rattle.em_rx.specs.Control.{of_setup}
use Rattle.em_rx.specs.declared.control.RxControl.{RxControl}
use Rattle.em_rx.specs.declared.step.RxAnswer.TheVariants as rx_answer
use Rattle.em_rx.specs.declared.refusal.RxRefusal.TheVariants as rx_refusal
use Rattle.em_tx.specs.Cells.{Shown}
use Rattle.em_tx.specs.Control.{as_read, is_over, is_still}
use Rattle.em_tx.specs.Descriptor.{address, dext, length_of}
use Rattle.em_tx.specs.Engine.{refusal as tx_cause, transmit, unless}
use Rattle.em_tx.specs.Ring as tx
use Rattle.em_tx.specs.declared.answer.TxAnswer.{TxAnswer}
use Rattle.em_tx.specs.declared.answer.TxAnswer.TheVariants as tx_answer
use Rattle.em_tx.specs.declared.refusal.TxRefusal.TheVariants as tx_refusal
use Rattle.em_step.specs.Engines.{rx_control, rx_stepped, sending, tx_control, tx_stepped}
use Rattle.em_step.specs.Event.{Event, reads, writes, pokes, arrives, links, receives, transmits}
use Rattle.em_step.specs.State.{State}
use Rattle.em_step.specs.Step.{at_register, step}
use Rattle.em_step.specs.declared.event.Answer.{Answer}
use Rattle.em_step.specs.declared.refusal.Refusal.{Refusal}
use Rattle.em_step.specs.declared.refusal.Refusal.TheVariants as refusal
use Rattle.em_reasons.specs.Foretold.{refusal_in}
use Rattle.em_reasons.specs.Table.{first_of}
use Rattle.em_reasons.specs.declared.refused.Bounds.{Bounds}
use Rattle.em_reasons.specs.declared.refused.Refused.{Refused}
use Rattle.em_reasons.specs.declared.refused.Refused.TheVariants.{NoRegister, Range, WriteLength, FrameLength}
use Rattle.em_reasons.specs.declared.refused.Refused.TheVariants.{RxDescriptor, RxBuffer, TxDescriptor, Extended}
use Rattle.em_inspect.specs.Ring.{octets_at}
use Rattle.em_regs.specs.Ring.{descriptor_at, rx_ring, tx_ring}
use Rattle.em_regs.specs.declared.ring.Ring.{Ring}
use Rattle.em_reasons.specs.Refused.{access_table, bounds, bounds_of, refusal_of, refusal_table, refused_descriptor}
use Rattle.em_reasons.specs.Refused.{refused_receive, refused_transmit}
use Rattle.em_reasons.specs.Refused.{refused_write, rx_buffer, rx_table, tx_buffer, tx_octets, tx_table, unless_idle}
use Rattle.em_reasons.specs.Refused.{too_long, why}

-- the refusal that a table says
abbrev pub said : List (Bool × Refused) → Option Refusal
said table = option_map refusal_of (first_of table)

-- ---- each event
of_access : (o : ℕ) (reg : Option Reg) (access : Reg → Answer × State) (answers : Bool) (r : Answer × State)
    → said ((is_none reg && not answers, NoRegister o) ∷ [])
    ≡ refusal_in (at_register reg access (if answers then Ok r else Err refusal.NoRegister))
of_access o None access true r = refl
of_access o None access false r = refl
of_access o (Some reg) access answers r = refl

of_write : (outside short : Bool) (a n : ℕ) (memory : Bounds) (r : Answer × State)
    → said ((outside, Range a n memory) ∷ (short, WriteLength n) ∷ [])
    ≡ refusal_in (if outside then Err refusal.Range else if short then Err refusal.Length else Ok r)
of_write true short a n memory r = refl
of_write false true a n memory r = refl
of_write false false a n memory r = refl

of_frame : (length : Bool) (n : ℕ) (r : Answer × State)
    → said ((length, FrameLength n) ∷ []) ≡ refusal_in (if length then Err refusal.Length else Ok r)
of_frame true n r = refl
of_frame false n r = refl

of_receive : (s : State) (q : RxControl) (idle outside buffer : Bool) (d b : Refused) → refusal_of d ≡ refusal.DmaRange
    → refusal_of b ≡ refusal.DmaRange
    → said (unless_idle idle ((outside, d) ∷ (buffer, b) ∷ []))
    ≡ refusal_in (rx_stepped s (if idle then Ok (record { answer = rx_answer.Idle; memory = s.memory; fifo = s.fifo })
    else if outside then Err rx_refusal.DmaRange
    else if buffer then Err rx_refusal.DmaRange
    else Ok (rx.delivery q s.memory s.fifo)))
of_receive s q true outside buffer d b hd hb = refl
of_receive s q false true buffer d b hd hb = ap Some hd
of_receive s q false false true d b hd hb = ap Some hb
of_receive s q false false false d b hd hb = refl

of_transmit : (s : State) (idle outside extended long buffer : Bool) (r : TxAnswer × Shown) (d x l b : Refused)
    → refusal_of d ≡ refusal.DmaRange → refusal_of x ≡ refusal.Extended → refusal_of l ≡ refusal.TooLong
    → refusal_of b ≡ refusal.DmaRange
    → said (unless_idle idle ((outside, d) ∷ (extended, x) ∷ (long, l) ∷ (buffer, b) ∷ []))
    ≡ refusal_in (tx_stepped s (if idle then Ok (tx_answer.Idle, sending s)
    else if outside then Err tx_refusal.DmaRange
    else unless (if extended then Some tx_refusal.Extended
    else if long then Some tx_refusal.TooLong
    else if buffer then Some tx_refusal.DmaRange
    else None) r))
of_transmit s true outside extended long buffer r d x l b hd hx hl hb = refl
of_transmit s false true extended long buffer r d x l b hd hx hl hb = ap Some hd
of_transmit s false false true long buffer r d x l b hd hx hl hb = ap Some hx
of_transmit s false false false true buffer r d x l b hd hx hl hb = ap Some hl
of_transmit s false false false false true r d x l b hd hx hl hb = ap Some hb
of_transmit s false false false false false r d x l b hd hx hl hb = refl

pub long_refusal : (p : Profile) (i at n : ℕ) → refusal_of (too_long p i at n) ≡ refusal.TooLong
long_refusal Table i at n = refl
long_refusal Adapter i at n = refl

pub refusal_said : (s : State) (e : Event) → option_map refusal_of (why s e) ≡ refusal_in (step s e)
unfolding transmit tx_cause
refusal_said s (reads o) = of_access o (reg_of s.profile o) _ (answers_at s.profile o) _
refusal_said s (writes o v) = of_access o (reg_of s.profile o) _ (answers_at s.profile o) _
refusal_said s (pokes a octets) =
    of_write (leaves s.base s.memory a (length octets)) (length octets == 0 || nat_lt 16_384 (length octets))
    a (length octets) (bounds_of s) _
refusal_said s (arrives f) = of_frame (nat_lt (length f) 14 || nat_lt 20_000 (length f)) (length f) _
refusal_said s (links up) = refl
refusal_said s receives =
    let q = rx_control s in
    of_receive s q (rx.is_idle q s.fifo) (leaves s.base s.memory (rx.descriptor_at q) 16)
    (rx.is_outside q s.base s.memory s.fifo) _ _ refl refl
refusal_said s transmits =
    let q = tx_setup s.registers in
    let d = tx_octets s.profile q s.memory in
    of_transmit s (is_still (tx_control s)) (leaves s.base s.memory (tx.place q) 16) (dext d)
    (nat_lt 16380 (length s.gathered + length_of d) || is_over s.profile (length_of d))
    (nat_lt 0 (length_of d) && leaves s.base s.memory (address d) (length_of d)) _ _ _ _ _ refl refl
    (long_refusal s.profile q.head (tx.place q) (length_of d)) refl

is_refused : (x : Result (Answer × State) Refusal) (r : Refusal) → (x ≡ Err r) ↔ (refusal_in x ≡ Some r)
is_refused (Ok a) r = (λ h. cc, λ h. cc)
is_refused (Err s) r = (λ h. cc, λ h. cc)

pub refused_with_reason : (s : State) (e : Event) (r : Refusal)
    → (step s e ≡ Err r) ↔ (option_map refusal_of (why s e) ≡ Some r)
refused_with_reason s e r =
    let both = is_refused (step s e) r in
    (λ h. refusal_said s e ∙ both.0 h, λ h. both.1 (sym (refusal_said s e) ∙ h))

-- ---- what the functions answer, where a table has one test that holds
one : (b : Bool) (x : Refused) (r : Refusal) → said ((b, x) ∷ []) ≡ Some r → first_of ((b, x) ∷ []) ≡ Some x
one true x r h = refl
one false x r h = cc

two : (a b : Bool) (x y : Refused) (r : Refusal) → said ((a, x) ∷ (b, y) ∷ []) ≡ Some r
    → first_of ((a, x) ∷ (b, y) ∷ []) ≡ Some (if a then x else y)
two true b x y r h = refl
two false true x y r h = refl
two false false x y r h = cc

two_busy : (idle a b : Bool) (x y : Refused) (r : Refusal) → said (unless_idle idle ((a, x) ∷ (b, y) ∷ [])) ≡ Some r
    → first_of (unless_idle idle ((a, x) ∷ (b, y) ∷ [])) ≡ Some (if a then x else y)
two_busy true a b x y r h = cc
two_busy false a b x y r h = two a b x y r h

-- what is said of a transmit descriptor
abbrev of_descriptor : Refusal → Refused → Refused → Refused → Refused
of_descriptor refusal.Extended x l b = x
of_descriptor refusal.TooLong x l b = l
of_descriptor _ x l b = b

four_busy : (idle a e n p : Bool) (d x l b : Refused) (r : Refusal) → refusal_of x ≡ refusal.Extended
    → refusal_of l ≡ refusal.TooLong → refusal_of b ≡ refusal.DmaRange
    → said (unless_idle idle ((a, d) ∷ (e, x) ∷ (n, l) ∷ (p, b) ∷ [])) ≡ Some r
    → first_of (unless_idle idle ((a, d) ∷ (e, x) ∷ (n, l) ∷ (p, b) ∷ []))
    ≡ Some (if a then d else of_descriptor r x l b)
four_busy true a e n p d x l b r hx hl hb h = cc
four_busy false true e n p d x l b r hx hl hb h = refl
four_busy false false true n p d x l b r hx hl hb h =
    let is : refusal.Extended ≡ r = cc in ap (λ (y : Refusal). Some (of_descriptor y x l b)) is
four_busy false false false true p d x l b r hx hl hb h =
    let is : refusal.TooLong ≡ r = cc in ap (λ (y : Refusal). Some (of_descriptor y x l b)) is
four_busy false false false false true d x l b r hx hl hb h =
    let is : refusal.DmaRange ≡ r = cc in ap (λ (y : Refusal). Some (of_descriptor y x l b)) is
four_busy false false false false false d x l b r hx hl hb h = cc

-- an event that is refused so
said_of : (s : State) (e : Event) (r : Refusal) → step s e ≡ Err r → option_map refusal_of (why s e) ≡ Some r
said_of s e r h = (refused_with_reason s e r).0 h

pub access_refused : (s : State) (e : Event) (o : ℕ) (r : Refusal) (d : Refused) → why s e ≡ first_of (access_table s.profile o)
    → d ≡ NoRegister o → step s e ≡ Err r → why s e ≡ Some d
access_refused s e o r d table is h =
    table
    ∙ one (is_none (reg_of s.profile o) && not (answers_at s.profile o)) (NoRegister o) r
    (ap (option_map refusal_of) (sym table) ∙ said_of s e r h)
    ∙ ap Some (sym is)

pub write_refused : (s : State) (a : ℕ) (octets : List ℕ) (r : Refusal) (d : Refused)
    → d ≡ refused_write (bounds_of s) a (length octets) → step s (pokes a octets) ≡ Err r
    → why s (pokes a octets) ≡ Some d
write_refused s a octets r d is h =
    two (leaves s.base s.memory a (length octets)) (length octets == 0 || nat_lt 16_384 (length octets))
    (Range a (length octets) (bounds_of s)) (WriteLength (length octets)) r (said_of s (pokes a octets) r h)
    ∙ ap Some (sym is)

pub frame_refused : (s : State) (f : List ℕ) (r : Refusal) → step s (arrives f) ≡ Err r
    → why s (arrives f) ≡ Some (FrameLength (length f))
frame_refused s f r h =
    one (nat_lt (length f) 14 || nat_lt 20_000 (length f)) (FrameLength (length f)) r (said_of s (arrives f) r h)

pub receive_refused : (s : State) (r : Refusal) (d : Refused)
    → d ≡ refused_receive (rx_setup s.registers) s.base s.memory s.fifo → step s receives ≡ Err r
    → why s receives ≡ Some d
receive_refused s r d is h =
    let q = rx_control s in
    two_busy (rx.is_idle q s.fifo) (leaves s.base s.memory (rx.descriptor_at q) 16)
    (rx.is_outside q s.base s.memory s.fifo)
    (RxDescriptor q.setup.head (rx.descriptor_at q) (bounds_of s)) (rx_buffer q.setup s.base s.memory s.fifo) r
    (said_of s receives r h)
    ∙ ap Some (sym is)

by_descriptor : (r : Refusal) (p : Profile) (q : TxSetup) (memory : Bounds) (d : List ℕ)
    → of_descriptor r (Extended q.head (tx.place q)) (too_long p q.head (tx.place q) (length_of d)) (tx_buffer q memory d)
    ≡ refused_descriptor r p q memory d
by_descriptor refusal.NoRegister p q memory d = refl
by_descriptor refusal.Range p q memory d = refl
by_descriptor refusal.Length p q memory d = refl
by_descriptor refusal.DmaRange p q memory d = refl
by_descriptor refusal.Extended p q memory d = refl
by_descriptor refusal.TooLong p q memory d = refl
by_descriptor refusal.Memory p q memory d = refl

pub transmit_refused : (s : State) (r : Refusal) (d : Refused)
    → d ≡ refused_transmit r s.profile (tx_setup s.registers) s.base s.memory → step s transmits ≡ Err r
    → why s transmits ≡ Some d
transmit_refused s r d is h =
    let q = tx_setup s.registers in
    let octets = tx_octets s.profile q s.memory in
    let outside = leaves s.base s.memory (tx.place q) 16 in
    let here = TxDescriptor q.head (tx.place q) (bounds_of s) in
    four_busy (is_still (tx_control s)) outside (dext octets)
    (nat_lt 16380 (length s.gathered + length_of octets) || is_over s.profile (length_of octets))
    (nat_lt 0 (length_of octets) && leaves s.base s.memory (address octets) (length_of octets)) here
    (Extended q.head (tx.place q)) (too_long s.profile q.head (tx.place q) (length_of octets))
    (tx_buffer q (bounds_of s) octets) r
    refl (long_refusal s.profile q.head (tx.place q) (length_of octets)) refl (said_of s transmits r h)
    ∙ ap (λ (x : Refused). Some (if outside then here else x)) (by_descriptor r s.profile q (bounds_of s) octets)
    ∙ ap Some (sym is)

pub link_refused : (s : State) (up : Bool) (r : Refusal) (d : Refused) → step s (links up) ≡ Err r
    → why s (links up) ≡ Some d
link_refused s up r d h = cc

-- ---- no test of a table is that memory is wanting
abbrev LacksMemory : List (Bool × Refused) → Type 0
LacksMemory [] = Unit {0}
LacksMemory (row ∷ rows) = (refusal_of row.1 ≡ refusal.Memory → ⊥) × LacksMemory rows

lacks_if : (b : Bool) (x : Refused) (rest : Option Refused) → (refusal_of x ≡ refusal.Memory → ⊥)
    → (option_map refusal_of rest ≡ Some refusal.Memory → ⊥)
    → option_map refusal_of (if b then Some x else rest) ≡ Some refusal.Memory → ⊥
lacks_if true x rest lacks others h = let is : refusal_of x ≡ refusal.Memory = cc in lacks is
lacks_if false x rest lacks others h = others h

lacks_memory : (rows : List (Bool × Refused)) → LacksMemory rows → said rows ≡ Some refusal.Memory → ⊥
lacks_memory [] lacks h = cc
lacks_memory (row ∷ rows) lacks h = lacks_if row.0 row.1 (first_of rows) lacks.0 (lacks_memory rows lacks.1) h

lacks_busy : (idle : Bool) (rows : List (Bool × Refused)) → LacksMemory rows → LacksMemory (unless_idle idle rows)
lacks_busy true rows lacks = tt
lacks_busy false rows lacks = lacks

tables_lack : (s : State) (e : Event) → LacksMemory (refusal_table s e)
tables_lack s (reads o) = (λ h. cc, tt)
tables_lack s (writes o v) = (λ h. cc, tt)
tables_lack s (pokes a octets) = (λ h. cc, (λ h. cc, tt))
tables_lack s (arrives f) = (λ h. cc, tt)
tables_lack s (links up) = tt
tables_lack s receives =
    let q = rx_control s in
    lacks_busy (rx.is_idle q s.fifo) (rx_table q s.base s.memory s.fifo) (λ h. cc, (λ h. cc, tt))
tables_lack s transmits =
    let q = tx_setup s.registers in
    let d = tx_octets s.profile q s.memory in
    lacks_busy (is_still (tx_control s)) (tx_table s.profile q (bounds_of s) s.gathered d) (
      λ h. cc,
      (
        λ h. cc,
        (
          λ h. let no : refusal.TooLong ≡ refusal.Memory
              = sym (long_refusal s.profile q.head (tx.place q) (length_of d)) ∙ h in cc,
          (λ h. cc, tt),
        ),
      ),
    )

pub never_memory : (s : State) (e : Event) (r : Refusal) (d : Refused) → r ≡ refusal.Memory → step s e ≡ Err r
    → why s e ≡ Some d
never_memory s e r d is h =
    absurd (lacks_memory (refusal_table s e) (tables_lack s e) (said_of s e r h ∙ ap Some is))

-- ---- a descriptor's octets, and what is said by them
outside : (b : Bool) (x : List ℕ) → None ≡ (if b then None else Some x) → b ≡ true
outside true x h = refl
outside false x h = cc

inside : (b : Bool) (x octets : List ℕ) → Some octets ≡ (if b then None else Some x) → (b ≡ false) × (octets ≡ x)
inside true x octets h = cc
inside false x octets h = (refl, cc)

-- the descriptor of an index in a ring that is known to be another one
pub octets_in : (base : ℕ) (memory : List ℕ) (i : ℕ) {o : Option (List ℕ)} {r q : Ring} → o ≡ octets_at r base memory i
    → r ≡ q → o ≡ octets_at q base memory i
octets_in base memory i is same = is ∙ ap (λ (r : Ring). octets_at r base memory i) same

pub place_in : (i : ℕ) {place : ℕ} {r q : Ring} → place ≡ descriptor_at r i → r ≡ q → place ≡ descriptor_at q i
place_in i is same = is ∙ ap (λ (r : Ring). descriptor_at r i) same

pub receive_outside : (p q : RxSetup) (base : ℕ) (memory : List ℕ) (fifo : Fifo) (place : ℕ) (lies_in : Bounds) → p ≡ q
    → None ≡ octets_at (rx_ring p) base memory p.head → place ≡ p.base + 16 * p.head → lies_in ≡ bounds base memory
    → RxDescriptor p.head place lies_in ≡ refused_receive q base memory fifo
receive_outside p q base memory fifo place lies_in same none at lies =
    let test : leaves base memory (rx.descriptor_at (of_setup p)) 16 ≡ true = outside _ _ none in
    ap (λ (n : ℕ). RxDescriptor p.head n lies_in) at
    ∙ ap (λ (b : Bounds). RxDescriptor p.head (rx.descriptor_at (of_setup p)) b) lies
    ∙ sym (ap (λ (b : Bool). if b then RxDescriptor p.head (rx.descriptor_at (of_setup p)) (bounds base memory)
    else rx_buffer p base memory fifo) test)
    ∙ ap (λ (r : RxSetup). refused_receive r base memory fifo) same

pub receive_inside : (p q : RxSetup) (base : ℕ) (memory octets : List ℕ) (fifo : Fifo) (place buffer n : ℕ)
    (lies_in : Bounds) → p ≡ q
    → Some octets ≡ octets_at (rx_ring p) base memory p.head → place ≡ p.base + 16 * p.head
    → buffer ≡ (descriptor_of octets).address → n ≡ length (first fifo).octets → lies_in ≡ bounds base memory
    → RxBuffer p.head place buffer p.buffer n lies_in ≡ refused_receive q base memory fifo
receive_inside p q base memory octets fifo place buffer n lies_in same some at address frame lies =
    let there = part memory (rx.descriptor_at (of_setup p)) 16 in
    let found = inside (leaves base memory (rx.descriptor_at (of_setup p)) 16) there octets some in
    ap (λ (k : ℕ). RxBuffer p.head k buffer p.buffer n lies_in) at
    ∙ ap (λ (k : ℕ). RxBuffer p.head (rx.descriptor_at (of_setup p)) k p.buffer n lies_in)
    (address ∙ ap (λ (l : List ℕ). (descriptor_of l).address) found.1)
    ∙ ap (λ (k : ℕ). RxBuffer p.head (rx.descriptor_at (of_setup p)) (rx.buffer_at (of_setup p) memory) p.buffer k lies_in) frame
    ∙ ap (λ (b : Bounds).
    RxBuffer p.head (rx.descriptor_at (of_setup p)) (rx.buffer_at (of_setup p) memory) p.buffer (length (first fifo).octets) b) lies
    ∙ sym (ap (λ (b : Bool). if b then RxDescriptor p.head (rx.descriptor_at (of_setup p)) (bounds base memory)
    else rx_buffer p base memory fifo) found.0)
    ∙ ap (λ (r : RxSetup). refused_receive r base memory fifo) same

pub transmit_outside : (r : Refusal) (k : Profile) (p q : TxSetup) (base : ℕ) (memory : List ℕ) (place : ℕ) (lies_in : Bounds) → p ≡ q
    → None ≡ octets_at (tx_ring p) base memory p.head → place ≡ p.base + 16 * p.head → lies_in ≡ bounds base memory
    → TxDescriptor p.head place lies_in ≡ refused_transmit r k q base memory
transmit_outside r k p q base memory place lies_in same none at lies =
    let test : leaves base memory (tx.place p) 16 ≡ true = outside _ _ none in
    ap (λ (n : ℕ). TxDescriptor p.head n lies_in) at
    ∙ ap (λ (b : Bounds). TxDescriptor p.head (tx.place p) b) lies
    ∙ sym (ap (λ (b : Bool). if b then TxDescriptor p.head (tx.place p) (bounds base memory)
    else refused_descriptor r k p (bounds base memory) (tx_octets k p memory)) test)
    ∙ ap (λ (s : TxSetup). refused_transmit r k s base memory) same

pub transmit_inside : (r : Refusal) (k : Profile) (p q : TxSetup) (base : ℕ) (memory octets : List ℕ) (d : Refused) → p ≡ q
    → Some octets ≡ octets_at (tx_ring p) base memory p.head → d ≡ refused_descriptor r k p (bounds base memory) (as_read k octets)
    → d ≡ refused_transmit r k q base memory
transmit_inside r k p q base memory octets d same some is =
    let found = inside (leaves base memory (tx.place p) 16) (part memory (tx.place p) 16) octets some in
    is ∙ ap (λ (l : List ℕ). refused_descriptor r k p (bounds base memory) (as_read k l)) found.1
    ∙ sym (ap (λ (b : Bool). if b then TxDescriptor p.head (tx.place p) (bounds base memory)
    else refused_descriptor r k p (bounds base memory) (tx_octets k p memory)) found.0)
    ∙ ap (λ (s : TxSetup). refused_transmit r k s base memory) same
