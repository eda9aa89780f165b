-- The first descriptor is cleared, and then given back.
use Rattle.std.proofs.Common.{◌≡◌, ◌≢◌, ◌∙◌, ℕ, ◌+◌, ◌<◌, ◌≤◌, true, false, List, [], ◌∷◌, ◌++◌, length, take}
use Rattle.std.proofs.Common.{refl, sym, ap}
use Rattle.std.proofs.Common.{subst, inl, inr, arith}
use Rattle.std.proofs.lemmas.Bool.{cases_eq}
use Rattle.byteorder.specs.Endian.{little_number}
use Rattle.em_mem.specs.Memory.{part, put}
use Rattle.em_regs.specs.declared.reg.Reg.TheVariants.{Rdh, Rdt}
use Rattle.em_regs.specs.RegFile as registers
use Rattle.em_step.specs.State.{State}
use Rattle.em_step.proofs.SetupLaws.{put_same, put_other}
use Rattle.em_driver.specs.Descriptor.{length_of, is_done}
use Rattle.em_driver.specs.Driven.{rdh, rdt, rx_at, first, is_filled, IsMarked, IsUsualLength, IsReceivingBut}
use Rattle.em_driver.specs.Driven.{IsDriven, IsDrivenBut}
use Rattle.em_driver.specs.Order.{rx_packet_at, octets_of, waiting}
use Rattle.em_driver.specs.Places.{is_among, between}
use Rattle.em_regs.specs.Ring.{following}
use Rattle.em_driver.specs.Receive.{rx_buffer, rx_descriptor}
use Rattle.em_driver.specs.declared.layout.Layout.{Layout}
use Rattle.em_driver.proofs.rings.WrittenDescriptors.{address_stays, status_length, cleared_mark}
use Rattle.em_driver.proofs.rings.RingPlaces.{following_in, among_none, shrink_here, shrink_other, between_shrink}
use Rattle.em_driver.proofs.rings.RingPlaces.{between_same}
use Rattle.em_driver.proofs.rings.ReceiveRing.{RxMoves, writes, index_kept, packet_same, first_same}
use Rattle.em_driver.proofs.rings.TransmitRing.{TxMoves, tx_same, same_tx_ring}
use Rattle.em_driver.proofs.rings.SideRegisters.{tx_side, is_rx_side, is_tx_side, same_side, put_other_side, put_tail}
use Rattle.em_driver.proofs.rings.OneTurn.{laid_same}
use Rattle.em_driver.proofs.rings.MemoryUnits.{rx_ring, rx_buffers, tx_ring, tx_buffers, unit, unit_long, part_front}

-- the first descriptor is still filled, with DD clear
pub record IsCleared (l : Layout) (s : State) : Type 0 where
  pub filled : is_filled l s (first l s) ≡ true
  pub clear : is_done (rx_at l s (first l s)) ≡ false

packet_as : (l : Layout) (s t : State) (i : ℕ) → length_of (rx_at l s i) ≤ 2048
    → length_of (rx_at l t i) ≡ length_of (rx_at l s i)
    → unit l t.memory rx_buffers i ≡ unit l s.memory rx_buffers i → rx_packet_at l t i ≡ rx_packet_at l s i
packet_as l s t i few same buffer =
    let n : ℕ = length_of (rx_at l s i) in
    ap (part t.memory (rx_buffer l i)) same
    ∙ part_front t.memory (rx_buffer l i) n 2048 few
    ∙ ap (take n) buffer
    ∙ sym (part_front s.memory (rx_buffer l i) n 2048 few)

-- ---- the status octet is cleared

pub record Clears (l : Layout) (s t : State) : Type 0 where
  pub but : IsDrivenBut l t
  pub cleared : IsCleared l t
  pub waiting : waiting l t ≡ waiting l s
  pub packet : rx_packet_at l t (first l s) ≡ rx_packet_at l s (first l s)
  pub tail : rdt t ≡ rdt s
  pub sending : TxMoves l s t

pub clears : (l : Layout) (s t : State) → IsDriven l s → is_filled l s (first l s) ≡ true
    → t ≡ record s { memory = put s.memory (rx_descriptor l (first l s) + 12) (0 ∷ []) } → Clears l s t
clears l s t h filled is =
    let n : ℕ = l.rx_count in
    let a : ℕ = first l s in
    let r : IsReceivingBut l s = h.but.receiving in
    let low : a < n = following_in n (rdt s) r.tail in
    let now : List ℕ = put s.memory (rx_descriptor l a + 12) (0 ∷ []) in
    let u : State = record s { memory = now } in
    let w = writes l s.memory now rx_ring a 12 (0 ∷ []) h.but.layout.good low (omega arith) refl in
    let long : length (rx_at l s a) ≡ 16 = unit_long l s.memory h.but.layout.good rx_ring a low in
    let len : (i : ℕ) → i < n → length_of (rx_at l u i) ≡ length_of (rx_at l s i)
    = λ i inside. elim (cases_eq i a) [
      | inl e ↦ subst (λ x. length_of (rx_at l u x) ≡ length_of (rx_at l s x)) (sym e)
          (ap length_of w.here ∙ status_length (rx_at l s a) 0 long)
      | inr e ↦ ap length_of (w.other rx_ring i inside e)
    ] in
    let same : (i : ℕ) → i < n → is_filled l s i ≡ true → rx_packet_at l u i ≡ rx_packet_at l s i
    = λ i inside e. packet_as l s u i (omega (arith, (r.lengths i inside e).most)) (len i inside)
    (w.other rx_buffers i inside tt) in
    let all : Clears l s u = record {
      but = record {
        layout = laid_same l s u refl w.size h.but.layout;
        receiving = record {
          rctl = r.rctl;
          base = r.base;
          len = r.len;
          head = r.head;
          tail = r.tail;
          untagged = r.untagged;
          profile = r.profile;
          addresses = λ i inside. elim (cases_eq i a) [
            | inl e ↦ subst (λ x. little_number 8 (rx_at l u x) ≡ rx_buffer l x) (sym e)
                (ap (little_number 8) w.here ∙ address_stays (rx_at l s a) 12 (0 ∷ []) (omega arith)
                (omega (arith, long))
                ∙ r.addresses a low)
            | inr e ↦ ap (little_number 8) (w.other rx_ring i inside e) ∙ r.addresses i inside
          ];
          lengths = λ i inside e. subst IsUsualLength (sym (len i inside)) (r.lengths i inside e);
          marks = λ i inside other. subst (IsMarked (is_filled l s i)) (sym (w.other rx_ring i inside other))
              (r.marks i inside other);
          frames = r.frames;
          taken = r.taken;
        };
        sending = (tx_same l s u h.but.sending (record {
          registers = same_side tx_side s.registers s.registers refl;
          descriptors = λ i inside. w.other tx_ring i inside tt;
          buffers = λ i inside. w.other tx_buffers i inside tt;
          gathered = refl;
          wire = refl;
        })).sending;
      };
      cleared = record { filled = filled; clear = ap is_done w.here ∙ cleared_mark (rx_at l s a) long };
      waiting = ap (λ x. x ++ octets_of s.fifo.frames)
          (between_same n a (rdh s) (rx_packet_at l u) (rx_packet_at l s) low r.head same);
      packet = same a low filled;
      tail = refl;
      sending = tx_same l s u h.but.sending (record {
        registers = same_side tx_side s.registers s.registers refl;
        descriptors = λ i inside. w.other tx_ring i inside tt;
        buffers = λ i inside. w.other tx_buffers i inside tt;
        gathered = refl;
        wire = refl;
      });
    } in
    subst (Clears l s) (sym is) all

-- it stays so while others take turns
pub cleared_moves : (l : Layout) (s t : State) (a : List (List ℕ)) → RxMoves l s t a → IsCleared l s → IsCleared l t
cleared_moves l s t a m h =
    let there : first l t ≡ first l s = first_same l s t m.tail in
    record {
      filled = ap (is_filled l t) there ∙ m.filled h.filled;
      clear = ap (λ i. is_done (rx_at l t i)) there ∙ ap is_done (m.descriptor h.filled) ∙ h.clear;
    }

-- and so does the first packet
pub first_packet : (l : Layout) (s t : State) (a : List (List ℕ)) → IsReceivingBut l s → RxMoves l s t a
    → is_filled l s (first l s) ≡ true → rx_packet_at l t (first l s) ≡ rx_packet_at l s (first l s)
first_packet l s t a h m filled =
    packet_same l s t (first l s)
    (omega (arith, (h.lengths (first l s) (following_in l.rx_count (rdt s) h.tail) filled).most))
    (m.descriptor filled) (m.buffer filled)

-- ---- RDT comes to the first descriptor

pub record Gives (l : Layout) (s t : State) : Type 0 where
  pub driven : IsDriven l t
  pub waiting : waiting l s ≡ rx_packet_at l s (first l s) ∷ waiting l t
  pub next : first l t ≡ following l.rx_count (first l s)
  pub sending : TxMoves l s t

pub gives_back : (l : Layout) (s t : State) → IsDrivenBut l s → IsCleared l s
    → t ≡ record s { registers = registers.put s.registers Rdt (first l s) } → Gives l s t
gives_back l s t h c is =
    let n : ℕ = l.rx_count in
    let a : ℕ = first l s in
    let b : ℕ = rdh s in
    let r : IsReceivingBut l s = h.receiving in
    let low : a < n = following_in n (rdt s) r.tail in
    let u : State = record s { registers = registers.put s.registers Rdt a } in
    let apart : a ≢ b
    = λ e. absurd (let not_so : true ≡ false = sym c.filled ∙ ap (λ x. is_among n a x a) (sym e)
    ∙ among_none n a a in cc) in
    let tail : rdt u ≡ a
    = index_kept s.registers Rdt a (put_same s.registers Rdt a) (omega (arith, h.layout.good.receive.count.most)) in
    let head : rdh u ≡ b = put_other s.registers Rdt Rdh a (λ e. omega arith) in
    let next : first l u ≡ following n a = ap (following n) tail in
    let setup = put_tail is_rx_side s.registers a in
    let now : (i : ℕ) → is_filled l u i ≡ is_among n (following n a) b i = λ i p. is_among n (next p) (head p) i in
    let here : is_filled l u a ≡ false = now a ∙ shrink_here n a b low r.head apart in
    let there : (i : ℕ) → i < n → i ≢ a → is_filled l u i ≡ is_filled l s i
    = λ i inside other. now i ∙ shrink_other n a b i low r.head apart inside other in
    let marked_here : IsMarked (is_filled l u a) (rx_at l s a)
    = subst (λ x. IsMarked x (rx_at l s a)) (sym here) c.clear in
    let each : (i : ℕ) → i < n → IsMarked (is_filled l u i) (rx_at l s i)
    = λ i inside. elim (cases_eq i a) [
      | inl e ↦ subst (λ x. IsMarked (is_filled l u x) (rx_at l s x)) (sym e) marked_here
      | inr e ↦ subst (λ x. IsMarked x (rx_at l s i)) (sym (there i inside e)) (r.marks i inside e)
    ] in
    let sent : TxMoves l s u
    = tx_same l s u h.sending
    (same_tx_ring l s u
    (put_other_side is_tx_side s.registers Rdt a
    (record { ctrl = λ e. omega arith; control = λ e. omega arith; ring = λ e. omega arith }))
    refl refl refl) in
    let low_next : first l u < n = subst (λ x. x < n) (sym next) (following_in n a low) in
    let all : Gives l s u = record {
      driven = record {
        but = record {
          layout = laid_same l s u refl refl h.layout;
          receiving = record {
            rctl = setup.control ∙ r.rctl;
            base = setup.base ∙ r.base;
            len = setup.len ∙ r.len;
            head = subst (λ x. x < n) (sym head) r.head;
            tail = subst (λ x. x < n) (sym tail) low;
            untagged = setup.vme ∙ r.untagged;
            profile = r.profile;
            addresses = r.addresses;
            lengths = λ i inside e. elim (cases_eq i a) [
              | inl is ↦ absurd (let not_so : true ≡ false = sym e ∙ ap (is_filled l u) is ∙ here in cc)
              | inr is ↦ r.lengths i inside (sym (there i inside is) ∙ e)
            ];
            marks = λ i inside other. each i inside;
            frames = r.frames;
            taken = r.taken;
          };
          sending = sent.sending;
        };
        marked = each (first l u) low_next;
      };
      waiting = ap (λ x. x ++ octets_of s.fifo.frames)
          (between_shrink n a b (rx_packet_at l s) low r.head apart
          ∙ (λ p. rx_packet_at l s a ∷ between n (sym next p) (sym head p) (rx_packet_at l s)));
      next = next;
      sending = sent;
    } in
    subst (Gives l s) (sym is) all
