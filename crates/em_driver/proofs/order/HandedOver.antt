-- A packet goes into the buffer at TDT, its descriptor is written, and TDT moves on.
use Rattle.std.proofs.Common.{◌≡◌, ◌≢◌, ◌∙◌, ℕ, ◌+◌, ◌<◌, ◌≤◌, List, [], ◌∷◌, ◌++◌, length}
use Rattle.std.proofs.Common.{take, drop}
use Rattle.std.proofs.Common.{refl, sym, ap, subst, inl, inr, arith}
use Rattle.std.specs.Prelude.{slice_index}
use Rattle.std.proofs.lemmas.Bool.{cases_eq}
use Rattle.std.proofs.lemmas.List.{append-nil, drop_all, take_at}
use Rattle.std.proofs.lemmas.Bool.Decides.{nat_tests}
use Rattle.byteorder.specs.Endian.{little_number, little_bytes}
use Rattle.byteorder.specs.Numbers.{little_number-reads_back}
use Rattle.em_mem.specs.Memory.{part, put}
use Rattle.em_regs.specs.declared.reg.Reg.TheVariants.{Tdh, Tdt}
use Rattle.em_regs.specs.RegFile as registers
use Rattle.em_step.specs.State.{State}
use Rattle.em_step.specs.Whole.{padded}
use Rattle.em_step.proofs.SetupLaws.{put_same, put_other}
use Rattle.em_driver.specs.Descriptor.{length_of, transmit_descriptor}
use Rattle.em_driver.specs.Driven.{tdh, tdt, tx_at, is_queued, IsOfPacket, IsSending, IsDriven}
use Rattle.em_driver.specs.Order.{tx_packet_at, queued}
use Rattle.em_driver.specs.Places.{is_among, between, distance}
use Rattle.em_regs.specs.Ring.{following}
use Rattle.em_driver.specs.Transmit.{tx_buffer, tx_descriptor}
use Rattle.em_driver.specs.declared.layout.Layout.{Layout}
use Rattle.em_driver.proofs.rings.RingPlaces.{following_in, grow_other, distance_more, between_grow}
use Rattle.em_driver.proofs.rings.ReceiveRing.{RxMoves, rx_same, same_ring, writes, index_kept}
use Rattle.em_driver.proofs.rings.TransmitRing.{TxMoves, TxKept, kept_queued, kept_sending}
use Rattle.em_driver.proofs.rings.SideRegisters.{rx_side, tx_side, is_rx_side, is_tx_side, same_side, put_other_side}
use Rattle.em_driver.proofs.rings.SideRegisters.{put_tail}
use Rattle.em_driver.proofs.rings.OneTurn.{laid_same}
use Rattle.em_driver.proofs.rings.MemoryUnits.{rx_ring, rx_buffers, tx_ring, tx_buffers, unit, unit_at, part_front}

-- what a write of the driver leaves
pub record Hands (l : Layout) (s t : State) : Type 0 where
  pub driven : IsDriven l t
  pub receiving : RxMoves l s t []
  pub queued : queued l t ≡ queued l s
  pub wire : t.wire ≡ s.wire
  pub head : tdh t ≡ tdh s
  pub tail : tdt t ≡ tdt s

-- a write to the descriptor at TDT, or to its buffer
hands : (l : Layout) (s : State) (m : List ℕ) → IsDriven l s → length m ≡ length s.memory
    → ((i : ℕ) → i < l.rx_count → unit l m rx_ring i ≡ unit l s.memory rx_ring i)
    → ((i : ℕ) → i < l.rx_count → unit l m rx_buffers i ≡ unit l s.memory rx_buffers i)
    → TxKept l s (record s { memory = m }) → Hands l s (record s { memory = m })
hands l s m h size ring buffers kept =
    let t : State = record s { memory = m } in
    let r : RxMoves l s t [] = rx_same l s t h.but.receiving
    (record {
      registers = same_side rx_side s.registers s.registers refl;
      descriptors = ring;
      buffers = buffers;
      profile = refl;
    })
    refl in
    record {
      driven = record {
        but = record {
          layout = laid_same l s t refl size h.but.layout;
          receiving = r.but;
          sending = kept_sending l s t h.but.sending kept;
        };
        marked = r.mark h.marked;
      };
      receiving = r;
      queued = kept_queued l s t h.but.sending kept;
      wire = refl;
      head = refl;
      tail = refl;
    }

-- ---- the packet

pub record Filled (l : Layout) (s t : State) (packet : List ℕ) : Type 0 where
  pub hands : Hands l s t
  pub buffer : take (length packet) (unit l t.memory tx_buffers (tdt t)) ≡ packet

pub fills_buffer : (l : Layout) (s t : State) (packet : List ℕ) → IsDriven l s → length packet ≤ 1518
    → t ≡ record s { memory = put s.memory (tx_buffer l (tdt s)) packet } → Filled l s t packet
fills_buffer l s t packet h few is =
    let b : ℕ = tdt s in
    let low = h.but.sending.tail in
    let m : List ℕ = put s.memory (tx_buffer l b) packet in
    let zero : tx_buffer l b ≡ unit_at l tx_buffers b + 0 = omega arith in
    let w = writes l s.memory m tx_buffers b 0 packet h.but.layout.good low (omega arith)
    (ap (λ a. put s.memory a packet) zero) in
    let kept : TxKept l s (record s { memory = m }) = record {
      registers = same_side tx_side s.registers s.registers refl;
      descriptors = λ i inside other. w.other tx_ring i inside tt;
      buffers = λ i inside other. w.other tx_buffers i inside other;
      address = ap (little_number 8) (w.other tx_ring b low tt) ∙ h.but.sending.addresses b low;
      gathered = refl;
    } in
    let all : Filled l s (record s { memory = m }) packet = record {
      hands = hands l s m h w.size (λ i inside. w.other rx_ring i inside tt)
          (λ i inside. w.other rx_buffers i inside tt) kept;
      buffer = ap (take (length packet)) w.here
          ∙ take_at packet (drop (0 + length packet) (unit l s.memory tx_buffers b)) (length packet) refl;
    } in
    subst (λ x. Filled l s x packet) (sym is) all

-- ---- its descriptor

pub record Described (l : Layout) (s t : State) (packet : List ℕ) : Type 0 where
  pub hands : Hands l s t
  pub buffer : unit l t.memory tx_buffers (tdt t) ≡ unit l s.memory tx_buffers (tdt s)
  pub descriptor : tx_at l t (tdt t) ≡ transmit_descriptor (tx_buffer l (tdt t)) (length packet)

described_address : (address len : ℕ) → address < 0x1_0000_0000_0000_0000
    → little_number 8 (transmit_descriptor address len) ≡ address
described_address address len less =
    little_number-reads_back 8 address (little_bytes 2 len ++ 0 ∷ 0x0B ∷ 0 ∷ 0 ∷ 0 ∷ 0 ∷ []) less

described_length : (address len : ℕ) → len < 65_536 → length_of (transmit_descriptor address len) ≡ len
unfolding length_of
described_length address len less = little_number-reads_back 2 len (0 ∷ 0x0B ∷ 0 ∷ 0 ∷ 0 ∷ 0 ∷ []) less

pub put_whole : (d e : List ℕ) → length d ≡ length e → put d 0 e ≡ e
put_whole d e same =
    let end : 0 + length e ≡ length d = omega arith in
    let none : drop (0 + length e) d ≡ [] = ap (λ n. drop n d) end ∙ drop_all (length d) d (omega arith) in
    ap (λ x. e ++ x) none ∙ append-nil e

pub writes_descriptor : (l : Layout) (s t : State) (packet : List ℕ) → IsDriven l s → length packet ≤ 1518
    → t ≡ record s {
      memory = put s.memory (tx_descriptor l (tdt s)) (transmit_descriptor (tx_buffer l (tdt s)) (length packet));
    } → Described l s t packet
writes_descriptor l s t packet h few is =
    let b : ℕ = tdt s in
    let low = h.but.sending.tail in
    let d : List ℕ = transmit_descriptor (tx_buffer l b) (length packet) in
    let m : List ℕ = put s.memory (tx_descriptor l b) d in
    let zero : tx_descriptor l b ≡ unit_at l tx_ring b + 0 = omega arith in
    let long : length d ≡ 16 = refl in
    let w = writes l s.memory m tx_ring b 0 d h.but.layout.good low (omega (arith, long))
    (ap (λ a. put s.memory a d) zero) in
    let here : unit l m tx_ring b ≡ d
    = w.here ∙ put_whole (unit l s.memory tx_ring b) d (w.long ∙ sym long) in
    let inside = h.but.layout.placed.transmit.inside.buffers in
    let kept : TxKept l s (record s { memory = m }) = record {
      registers = same_side tx_side s.registers s.registers refl;
      descriptors = λ i inside other. w.other tx_ring i inside other;
      buffers = λ i inside other. w.other tx_buffers i inside tt;
      address = ap (little_number 8) here ∙ described_address (tx_buffer l b) (length packet) (omega (arith, inside));
      gathered = refl;
    } in
    let all : Described l s (record s { memory = m }) packet = record {
      hands = hands l s m h w.size (λ i inside. w.other rx_ring i inside tt)
          (λ i inside. w.other rx_buffers i inside tt) kept;
      buffer = w.other tx_buffers b low tt;
      descriptor = here;
    } in
    subst (λ x. Described l s x packet) (sym is) all

-- ---- TDT moves on

-- the packet and its descriptor lie at TDT
pub record IsReady (l : Layout) (s : State) (packet : List ℕ) : Type 0 where
  pub few : length packet ≤ 1518
  pub least : 14 ≤ length packet
  pub buffer : take (length packet) (unit l s.memory tx_buffers (tdt s)) ≡ packet
  pub descriptor : tx_at l s (tdt s) ≡ transmit_descriptor (tx_buffer l (tdt s)) (length packet)

pub ready_moves : (l : Layout) (s t : State) (packet : List ℕ) → TxMoves l s t → IsReady l s packet
    → IsReady l t packet
ready_moves l s t packet m h = record {
  few = h.few;
  least = h.least;
  buffer = ap (λ i. take (length packet) (unit l t.memory tx_buffers i)) m.tail ∙ ap (take (length packet)) m.buffer
      ∙ h.buffer;
  descriptor = ap (tx_at l t) m.tail ∙ m.descriptor ∙ h.descriptor
      ∙ ap (λ i. transmit_descriptor (tx_buffer l i) (length packet)) (sym m.tail);
}

-- with two descriptors free, the one after TDT is not the one at TDH
full : (n a b : ℕ) → a < n → b < n → distance n a b + 1 < n → following n b ≡ a → ⊥
full n a b h k free e = grind (arith, nat_tests)

pub record Queues (l : Layout) (s t : State) (packet : List ℕ) : Type 0 where
  pub driven : IsDriven l t
  pub receiving : RxMoves l s t []
  pub queued : queued l t ≡ queued l s ++ padded packet ∷ []
  pub wire : t.wire ≡ s.wire
  pub next : tdt t ≡ following l.tx_count (tdt s)
  pub far : distance l.tx_count (tdh t) (tdt t) ≤ distance l.tx_count (tdh s) (tdt s) + 1

pub queues : (l : Layout) (s t : State) (packet : List ℕ) → IsDriven l s → IsReady l s packet
    → distance l.tx_count (tdh s) (tdt s) + 1 < l.tx_count
    → t ≡ record s { registers = registers.put s.registers Tdt (following l.tx_count (tdt s)) } → Queues l s t packet
queues l s t packet h ready free is =
    let n : ℕ = l.tx_count in
    let a : ℕ = tdh s in
    let b : ℕ = tdt s in
    let k : IsSending l s = h.but.sending in
    let next : ℕ = following n b in
    let u : State = record s { registers = registers.put s.registers Tdt next } in
    let low : next < n = following_in n b k.tail in
    let room : next ≢ a = λ e. full n a b k.head k.tail free e in
    let tail : tdt u ≡ next
    = index_kept s.registers Tdt next (put_same s.registers Tdt next)
    (omega (arith, h.but.layout.good.transmit.count.most)) in
    let head : tdh u ≡ a = put_other s.registers Tdt Tdh next (λ e. omega arith) in
    let setup = put_tail is_tx_side s.registers next in
    let now : (i : ℕ) → is_queued l u i ≡ is_among n a next i = λ i p. is_among n (head p) (tail p) i in
    let there : (i : ℕ) → i < n → i ≢ b → is_queued l u i ≡ is_queued l s i
    = λ i inside other. now i ∙ grow_other n a b i k.head k.tail room inside other in
    let len : length_of (tx_at l s b) ≡ length packet
    = ap length_of ready.descriptor ∙ described_length (tx_buffer l b) (length packet) (omega (arith, ready.few)) in
    let at_b : IsOfPacket (tx_at l s b) = record {
      command = ap (λ d. slice_index d 11) ready.descriptor;
      least = omega (arith, len, ready.least);
      most = omega (arith, len, ready.few);
    } in
    let packet_is : tx_packet_at l s b ≡ packet
    = ap (part s.memory (tx_buffer l b)) len ∙ part_front s.memory (tx_buffer l b) (length packet) 2048
    (omega (arith, ready.few))
    ∙ ready.buffer in
    let r : RxMoves l s u []
    = rx_same l s u h.but.receiving
    (same_ring l s u
    (put_other_side is_rx_side s.registers Tdt next
    (record { ctrl = λ e. omega arith; control = λ e. omega arith; ring = λ e. omega arith }))
    refl refl) refl in
    let far : distance n (tdh u) (tdt u) ≡ distance n a next = λ p. distance n (head p) (tail p) in
    let more = distance_more n a b k.head k.tail room in
    let all : Queues l s u packet = record {
      driven = record {
        but = record {
          layout = laid_same l s u refl refl h.but.layout;
          receiving = r.but;
          sending = record {
            tctl = setup.control ∙ k.tctl;
            base = setup.base ∙ k.base;
            len = setup.len ∙ k.len;
            head = subst (λ x. x < n) (sym head) k.head;
            tail = subst (λ x. x < n) (sym tail) low;
            untagged = setup.vme ∙ k.untagged;
            addresses = k.addresses;
            packets = λ i inside e. elim (cases_eq i b) [
              | inl is ↦ subst (λ x. IsOfPacket (tx_at l s x)) (sym is) at_b
              | inr is ↦ k.packets i inside (sym (there i inside is) ∙ e)
            ];
            gathered = k.gathered;
          };
        };
        marked = r.mark h.marked;
      };
      receiving = r;
      queued = (λ p. between n (head p) (tail p) (λ i. padded (tx_packet_at l s i)))
          ∙ between_grow n a b (λ i. padded (tx_packet_at l s i)) k.head k.tail room
          ∙ ap (λ x. queued l s ++ padded x ∷ []) packet_is;
      wire = refl;
      next = tail;
      far = omega (arith, far, more);
    } in
    subst (λ x. Queues l s x packet) (sym is) all
