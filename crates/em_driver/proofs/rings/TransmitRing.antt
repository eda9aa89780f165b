-- What is queued and what is on the wire, through transmit steps.
use Rattle.std.proofs.Common.{◌≡◌, ◌≢◌, ◌∙◌, ℕ, ◌+◌, ◌*◌, ◌/◌, ◌%◌, ◌<◌, ◌≤◌, true, false, List, [], ◌∷◌}
use Rattle.std.proofs.Common.{◌++◌}
use Rattle.std.proofs.Common.{length, take, refl, sym, ap, subst, inl, inr, arith, append_assoc, append-nil}
use Rattle.std.proofs.Common.{Some, None}
use Rattle.std.specs.Prelude.{slice_index, ◌==◌, if◌then◌else◌, bit_and}
use Rattle.std.proofs.lemmas.Bool.{cases_eq}
use Rattle.byteorder.specs.Endian.{little_number}
use Rattle.em_mem.specs.Memory.{part, put}
use Rattle.em_regs.specs.declared.profile.Profile.{Profile}
use Rattle.em_regs.specs.declared.profile.Profile.TheVariants.{Table}
use Rattle.em_regs.specs.declared.reg.Reg.TheVariants.{Vet, Tdh, Tdt}
use Rattle.em_regs.specs.RegFile as registers
use Rattle.em_regs.specs.Setup.{value_of, tx_setup}
use Rattle.em_tx.specs.Control.{as_read}
use Rattle.em_tx.specs.Descriptor as tx_descriptors
use Rattle.em_tx.specs.Ring as tx
use Rattle.em_step.specs.State.{State}
use Rattle.em_step.specs.Whole.{IsWhole, SendsWhole, next_descriptor, next_packet, padded}
use Rattle.em_step.proofs.SetupLaws.{put_same, put_other}
use Rattle.em_driver.specs.Descriptor.{length_of}
use Rattle.em_driver.specs.Driven.{tdh, tdt, tx_at, is_queued, IsOfPacket, IsSending, IsLaidOut}
use Rattle.em_driver.specs.Order.{tx_packet_at, queued}
use Rattle.em_driver.specs.Places.{is_among, between, distance}
use Rattle.em_regs.specs.Ring.{following}
use Rattle.em_driver.specs.Transmit.{tx_buffer, tx_descriptor}
use Rattle.em_driver.specs.declared.layout.Layout.{Layout}
use Rattle.em_driver.proofs.rings.WrittenDescriptors.{address_stays}
use Rattle.em_driver.proofs.rings.RingPlaces.{following_in, among_first, among_end, shrink_here, shrink_other}
use Rattle.em_driver.proofs.rings.RingPlaces.{distance_less}
use Rattle.em_driver.proofs.rings.RingPlaces.{between_shrink, between_same}
use Rattle.em_driver.proofs.rings.ReceiveRing.{Writes, writes, index_kept}
use Rattle.em_driver.proofs.rings.SideRegisters.{tx_side, is_tx_side, SameSetup, SameSide, put_head}
use Rattle.em_driver.proofs.rings.MemoryUnits.{tx_ring, tx_buffers, unit, unit_lies, unit_long, part_front}

-- ---- what an event of others leaves of the transmit side

pub record TxMoves (l : Layout) (s t : State) : Type 0 where
  pub sending : IsSending l t
  pub tail : tdt t ≡ tdt s
  pub wire : t.wire ++ queued l t ≡ s.wire ++ queued l s
  -- the frames that went onto the wire
  pub sent : List (List ℕ)
  pub is_sent : t.wire ≡ s.wire ++ sent
  -- descriptors only come free; the one at TDT stays
  pub free : distance l.tx_count (tdh t) (tdt t) ≤ distance l.tx_count (tdh s) (tdt s)
  pub descriptor : tx_at l t (tdt s) ≡ tx_at l s (tdt s)
  pub buffer : unit l t.memory tx_buffers (tdt s) ≡ unit l s.memory tx_buffers (tdt s)

pub tx_moves_on : (l : Layout) (s t u : State) → TxMoves l s t → TxMoves l t u → TxMoves l s u
tx_moves_on l s t u h k = record {
  sending = k.sending;
  tail = k.tail ∙ h.tail;
  wire = k.wire ∙ h.wire;
  sent = h.sent ++ k.sent;
  is_sent = k.is_sent ∙ ap (λ x. x ++ k.sent) h.is_sent ∙ append_assoc s.wire h.sent k.sent;
  free = omega (arith, h.free, k.free);
  descriptor = ap (tx_at l u) (sym h.tail) ∙ k.descriptor ∙ ap (tx_at l t) h.tail ∙ h.descriptor;
  buffer = ap (unit l u.memory tx_buffers) (sym h.tail) ∙ k.buffer ∙ ap (unit l t.memory tx_buffers) h.tail ∙ h.buffer;
}

-- a packet by the units that it lies in
pub packet_same : (l : Layout) (s t : State) (i : ℕ) → length_of (tx_at l s i) ≤ 2048 → tx_at l t i ≡ tx_at l s i
    → unit l t.memory tx_buffers i ≡ unit l s.memory tx_buffers i → tx_packet_at l t i ≡ tx_packet_at l s i
packet_same l s t i few same buffer =
    let n : ℕ = length_of (tx_at l s i) in
    ap (λ d. part t.memory (tx_buffer l i) (length_of d)) same
    ∙ part_front t.memory (tx_buffer l i) n 2048 few
    ∙ ap (take n) buffer
    ∙ sym (part_front s.memory (tx_buffer l i) n 2048 few)

-- all is as it was, but at most the descriptor at TDT and its buffer, which still has its own address
pub record TxKept (l : Layout) (s t : State) : Type 0 where
  pub registers : SameSide tx_side s.registers t.registers
  pub descriptors : (i : ℕ) → i < l.tx_count → i ≢ tdt s → tx_at l t i ≡ tx_at l s i
  pub buffers : (i : ℕ) → i < l.tx_count → i ≢ tdt s → unit l t.memory tx_buffers i ≡ unit l s.memory tx_buffers i
  pub address : little_number 8 (tx_at l t (tdt s)) ≡ tx_buffer l (tdt s)
  pub gathered : t.gathered ≡ s.gathered

not_at : (n a b i : ℕ) → is_among n a b i ≡ true → i ≢ b
not_at n a b i e = λ is. absurd (let not_so : true ≡ false = sym e ∙ ap (is_among n a b) is ∙ among_end n a b in cc)

pub kept_queued : (l : Layout) (s t : State) → IsSending l s → TxKept l s t → queued l t ≡ queued l s
kept_queued l s t h k =
    let n : ℕ = l.tx_count in
    (λ p. between n (k.registers.head p) (k.registers.tail p) (λ i. padded (tx_packet_at l t i)))
    ∙ between_same n (tdh s) (tdt s) (λ i. padded (tx_packet_at l t i)) (λ i. padded (tx_packet_at l s i)) h.head h.tail
    (λ i low e.
    let other = not_at n (tdh s) (tdt s) i e in
    ap padded (packet_same l s t i (omega (arith, (h.packets i low e).most)) (k.descriptors i low other)
    (k.buffers i low other)))

pub kept_sending : (l : Layout) (s t : State) → IsSending l s → TxKept l s t → IsSending l t
kept_sending l s t h k =
    let n : ℕ = l.tx_count in
    let among : (i : ℕ) → is_queued l t i ≡ is_queued l s i
    = λ i p. is_among n (k.registers.head p) (k.registers.tail p) i in
    record {
      tctl = k.registers.setup.control ∙ h.tctl;
      base = k.registers.setup.base ∙ h.base;
      len = k.registers.setup.len ∙ h.len;
      head = subst (λ x. x < n) (sym k.registers.head) h.head;
      tail = subst (λ x. x < n) (sym k.registers.tail) h.tail;
      untagged = k.registers.setup.vme ∙ h.untagged;
      addresses = λ i low. elim (cases_eq i (tdt s)) [
        | inl e ↦ subst (λ x. little_number 8 (tx_at l t x) ≡ tx_buffer l x) (sym e) k.address
        | inr e ↦ ap (little_number 8) (k.descriptors i low e) ∙ h.addresses i low
      ];
      packets = λ i low e.
          let was = sym (among i) ∙ e in
          subst IsOfPacket (sym (k.descriptors i low (not_at n (tdh s) (tdt s) i was))) (h.packets i low was);
      gathered = k.gathered ∙ h.gathered;
    }

-- nothing of the transmit side changed
pub record SameTxRing (l : Layout) (s t : State) : Type 0 where
  pub registers : SameSide tx_side s.registers t.registers
  pub descriptors : (i : ℕ) → i < l.tx_count → tx_at l t i ≡ tx_at l s i
  pub buffers : (i : ℕ) → i < l.tx_count → unit l t.memory tx_buffers i ≡ unit l s.memory tx_buffers i
  pub gathered : t.gathered ≡ s.gathered
  pub wire : t.wire ≡ s.wire

pub same_tx_ring : (l : Layout) (s t : State) → SameSide tx_side s.registers t.registers → t.memory ≡ s.memory
    → t.gathered ≡ s.gathered → t.wire ≡ s.wire → SameTxRing l s t
same_tx_ring l s t regs is gathered wire = record {
  registers = regs;
  descriptors = λ i low. ap (λ m. unit l m tx_ring i) is;
  buffers = λ i low. ap (λ m. unit l m tx_buffers i) is;
  gathered = gathered;
  wire = wire;
}

pub tx_same : (l : Layout) (s t : State) → IsSending l s → SameTxRing l s t → TxMoves l s t
tx_same l s t h same =
    let kept : TxKept l s t = record {
      registers = same.registers;
      descriptors = λ i low other. same.descriptors i low;
      buffers = λ i low other. same.buffers i low;
      address = ap (little_number 8) (same.descriptors (tdt s) h.tail) ∙ h.addresses (tdt s) h.tail;
      gathered = same.gathered;
    } in
    record {
      sending = kept_sending l s t h kept;
      tail = same.registers.tail;
      wire = λ p. same.wire p ++ kept_queued l s t h kept p;
      sent = [];
      is_sent = same.wire ∙ sym (append-nil s.wire);
      free = omega (
        arith,
        ap (λ x. distance l.tx_count x (tdt t)) same.registers.head,
        ap (λ x. distance l.tx_count (tdh s) x) same.registers.tail,
      );
      descriptor = same.descriptors (tdt s) h.tail;
      buffer = same.buffers (tdt s) h.tail;
    }

-- ---- a packet that is sent

-- the packet at TDH went onto the wire
pub record Sends (l : Layout) (s t : State) : Type 0 where
  pub setup : SameSetup tx_side s.registers t.registers
  pub head : tdh t ≡ following l.tx_count (tdh s)
  pub tail : tdt t ≡ tdt s
  pub apart : tdh s ≢ tdt s
  pub descriptors : (i : ℕ) → i < l.tx_count → i ≢ tdh s → tx_at l t i ≡ tx_at l s i
  pub buffers : (i : ℕ) → i < l.tx_count → unit l t.memory tx_buffers i ≡ unit l s.memory tx_buffers i
  pub address : little_number 8 (tx_at l t (tdh s)) ≡ tx_buffer l (tdh s)
  pub gathered : t.gathered ≡ []
  pub wire : t.wire ≡ s.wire ++ padded (tx_packet_at l s (tdh s)) ∷ []

pub moves_send : (l : Layout) (s t : State) → IsSending l s → Sends l s t → TxMoves l s t
moves_send l s t h k =
    let n : ℕ = l.tx_count in
    let a : ℕ = tdh s in
    let b : ℕ = tdt s in
    let now : (i : ℕ) → is_queued l t i ≡ is_among n (following n a) b i = λ i p. is_among n (k.head p) (k.tail p) i in
    let here : is_queued l t a ≡ false = now a ∙ shrink_here n a b h.head h.tail k.apart in
    let there : (i : ℕ) → i < n → i ≢ a → is_queued l t i ≡ is_queued l s i
    = λ i low other. now i ∙ shrink_other n a b i h.head h.tail k.apart low other in
    let not_here : (i : ℕ) → is_queued l t i ≡ true → i ≢ a
    = λ i e is. absurd (let not_so : true ≡ false = sym e ∙ ap (is_queued l t) is ∙ here in cc) in
    let same : (i : ℕ) → i < n → is_among n (following n a) b i ≡ true
    → padded (tx_packet_at l t i) ≡ padded (tx_packet_at l s i)
    = λ i low e.
    let other = not_here i (now i ∙ e) in
    let was = sym (there i low other) ∙ now i ∙ e in
    ap padded (packet_same l s t i (omega (arith, (h.packets i low was).most)) (k.descriptors i low other)
    (k.buffers i low)) in
    let left : queued l t ≡ between n (following n a) b (λ i. padded (tx_packet_at l s i))
    = (λ p. between n (k.head p) (k.tail p) (λ i. padded (tx_packet_at l t i)))
    ∙ between_same n (following n a) b (λ i. padded (tx_packet_at l t i)) (λ i. padded (tx_packet_at l s i))
    (following_in n a h.head) h.tail same in
    let less = distance_less n a b h.head h.tail k.apart in
    let far : distance n (tdh t) (tdt t) ≡ distance n (following n a) b = λ p. distance n (k.head p) (k.tail p) in
    record {
      sending = record {
        tctl = k.setup.control ∙ h.tctl;
        base = k.setup.base ∙ h.base;
        len = k.setup.len ∙ h.len;
        head = subst (λ x. x < n) (sym k.head) (following_in n a h.head);
        tail = subst (λ x. x < n) (sym k.tail) h.tail;
        untagged = k.setup.vme ∙ h.untagged;
        addresses = λ i low. elim (cases_eq i a) [
          | inl e ↦ subst (λ x. little_number 8 (tx_at l t x) ≡ tx_buffer l x) (sym e) k.address
          | inr e ↦ ap (little_number 8) (k.descriptors i low e) ∙ h.addresses i low
        ];
        packets = λ i low e.
            let other = not_here i e in
            subst IsOfPacket (sym (k.descriptors i low other)) (h.packets i low (sym (there i low other) ∙ e));
        gathered = k.gathered;
      };
      tail = k.tail;
      wire = (λ p. k.wire p ++ left p)
          ∙ append_assoc s.wire (padded (tx_packet_at l s a) ∷ [])
          (between n (following n a) b (λ i. padded (tx_packet_at l s i)))
          ∙ ap (λ x. s.wire ++ x) (sym (between_shrink n a b (λ i. padded (tx_packet_at l s i)) h.head h.tail k.apart));
      sent = padded (tx_packet_at l s a) ∷ [];
      is_sent = k.wire;
      free = omega (arith, far, less);
      descriptor = k.descriptors b h.tail (λ e. k.apart (sym e));
      buffer = k.buffers b h.tail;
    }

-- ---- a transmit step

length_is : (d : List ℕ) → tx_descriptors.length_of d ≡ length_of d
unfolding tx_descriptors.length_of length_of
length_is d = refl

address_is : (d : List ℕ) → tx_descriptors.address d ≡ little_number 8 d
unfolding tx_descriptors.address
address_is d = refl

-- the first profile reads a descriptor as it lies there
read_so : (d : List ℕ) → as_read Table d ≡ d
unfolding as_read
read_so d = refl

next_at : (l : Layout) (s : State) → s.profile ≡ Table → IsSending l s → next_descriptor s ≡ tx_at l s (tdh s)
next_at l s profile h =
    let place = tx.place (tx_setup s.registers) in
    ap (λ (p : Profile). as_read p (part s.memory place 16)) profile
    ∙ read_so (part s.memory place 16)
    ∙ ap (λ x. part s.memory (x + 16 * tdh s) 16) h.base

pub is_whole : (l : Layout) (s : State) → s.profile ≡ Table → IsLaidOut l s → IsSending l s → tdh s ≢ tdt s → IsWhole s
is_whole l s profile laid h apart =
    let a : ℕ = tdh s in
    let at = next_at l s profile h in
    let p = h.packets a h.head (among_first l.tx_count a (tdt s) h.head h.tail apart) in
    let len : tx_descriptors.length_of (next_descriptor s) ≡ length_of (tx_at l s a)
    = length_is (next_descriptor s) ∙ ap length_of at in
    let address : tx_descriptors.address (next_descriptor s) ≡ tx_buffer l a
    = address_is (next_descriptor s) ∙ ap (little_number 8) at ∙ h.addresses a h.head in
    let held = unit_lies l s.base s.memory laid.good tx_buffers a h.head in
    record {
      command = ap (λ d. slice_index d 11) at ∙ p.command;
      least = omega (arith, len, p.least);
      held = record {
        from = omega (arith, address, held.from);
        to = omega (arith, len, address, held.to, p.most);
      };
    }

pub sends : (l : Layout) (s t : State) → s.profile ≡ Table → IsLaidOut l s → IsSending l s → SendsWhole s t
    → Writes l s.memory t.memory tx_ring (tdh s) 12 (1 ∷ []) × Sends l s t
sends l s t profile laid h r =
    let n : ℕ = l.tx_count in
    let a : ℕ = tdh s in
    let q = tx_setup s.registers in
    let at = next_at l s profile h in
    let place : tx.place q ≡ tx_descriptor l a = ap (λ x. x + 16 * a) h.base in
    let w = writes l s.memory t.memory tx_ring a 12 (1 ∷ []) laid.good h.head (omega arith)
    (r.memory ∙ ap (λ x. put s.memory (x + 12) (1 ∷ [])) place) in
    let count : q.count ≡ n = ap (λ v. v / 16) h.len ∙ omega arith in
    let next : tx.next q ≡ following n a = ap (λ c. following c a) count in
    let low : following n a < 65_536 = omega (arith, following_in n a h.head, laid.good.transmit.count.most) in
    let regs : t.registers ≡ registers.put s.registers Tdh (following n a)
    = r.registers ∙ ap (registers.put s.registers Tdh) next in
    let long : length (tx_at l s a) ≡ 16 = unit_long l s.memory laid.good tx_ring a h.head in
    let packet : next_packet s ≡ tx_packet_at l s a
    = (λ p. part s.memory (address_is (next_descriptor s) p) (length_is (next_descriptor s) p))
    ∙ (λ p. part s.memory (little_number 8 (at p)) (length_of (at p)))
    ∙ ap (λ x. part s.memory x (length_of (tx_at l s a))) (h.addresses a h.head) in (
      w,
      record {
        setup = subst (SameSetup tx_side s.registers) (sym regs) (put_head is_tx_side s.registers (following n a));
        head = ap (λ m. value_of m Tdh) regs
            ∙ index_kept s.registers Tdh (following n a) (put_same s.registers Tdh (following n a)) low;
        tail = ap (λ m. value_of m Tdt) regs ∙ put_other s.registers Tdh Tdt (following n a) (λ e. omega arith);
        apart = r.apart;
        descriptors = λ i inside other. w.other tx_ring i inside other;
        buffers = λ i inside. w.other tx_buffers i inside tt;
        address = ap (little_number 8) w.here ∙ address_stays (tx_at l s a) 12 (1 ∷ []) (omega arith)
            (omega (arith, long))
            ∙ h.addresses a h.head;
        gathered = r.gathered;
        wire = r.wire ∙ ap (λ x. s.wire ++ padded x ∷ []) packet;
      },
    )

pub no_tags : (l : Layout) (s : State) → IsSending l s → (tx_setup s.registers).vlan ≡ None
no_tags l s h = ap (λ b. if b then Some (value_of s.registers Vet % 0x1_0000) else None) h.untagged

pub pads : (l : Layout) (s : State) → IsSending l s → (tx_setup s.registers).pad ≡ true
pads l s h = ap (λ v. bit_and v 0x8 == 0x8) h.tctl
