-- What waits, through arrivals and receive steps.
use Rattle.std.proofs.Common.{◌≡◌, ◌≢◌, ◌∙◌, ℕ, ◌+◌, ◌*◌, ◌/◌, ◌%◌, ◌<◌, ◌≤◌, Bool, true, false, List, [], ◌∷◌}
use Rattle.std.proofs.Common.{◌++◌}
use Rattle.std.proofs.Common.{length, take, drop, refl, sym, ap, subst, inl, inr, arith, append_assoc, append-nil}
use Rattle.std.specs.Prelude.{All, if◌then◌else◌, slice_index, ◌==◌, ◌&&◌, not, bit_and}
use Rattle.std.proofs.lemmas.Bool.{cases_eq}
use Rattle.std.proofs.lemmas.List.{map-append, take_at}
use Rattle.std.proofs.lemmas.List.Elements.{All-append, All-rest}
use Rattle.std.proofs.lemmas.Nat.{and_mask}
use Rattle.std.proofs.Math.Nat.{mod-eq_of_lt}
use Rattle.byteorder.specs.Endian.{little_number}
use Rattle.em_mem.specs.Memory.{part, put}
use Rattle.em_regs.specs.declared.reg.Reg.{Reg}
use Rattle.em_regs.specs.declared.profile.Profile.{Profile}
use Rattle.em_regs.specs.declared.profile.Profile.TheVariants.{Table}
use Rattle.em_regs.specs.declared.reg.Reg.TheVariants.{Rctl, Rdh, Rdt}
use Rattle.em_regs.specs.RegFile as registers
use Rattle.em_regs.specs.Setup.{value_of, rx_setup, buffer_size}
use Rattle.em_rx.specs.Control.{is_null_at}
use Rattle.em_regs.specs.Storage.{Registers}
use Rattle.em_filter.specs.Bits.{takes_long}
use Rattle.em_rx.specs.Frame.{Frame}
use Rattle.em_rx.specs.Receive as rx
use Rattle.em_step.specs.Arrival.{keeps_sequence}
use Rattle.em_step.specs.Engines.{comes_inexact, rx_control}
use Rattle.em_step.proofs.InexactLaws.{exact_in_the_first}
use Rattle.em_step.specs.State.{State, is_adapter}
use Rattle.em_step.specs.Access.{has}
use Rattle.em_step.specs.Whole.{IsUsual, IsPlain, plain, ReceivesWhole}
use Rattle.em_step.proofs.SetupLaws.{put_same, put_other}
use Rattle.em_driver.specs.Descriptor.{length_of}
use Rattle.em_driver.specs.Driven.{rdh, rdt, rx_at, first, is_filled, IsMarked, IsUsualLength, IsReceivingBut}
use Rattle.em_driver.specs.Driven.{IsFirstMarked, IsLaidOut}
use Rattle.em_driver.specs.Layout.{IsGoodLayout}
use Rattle.em_driver.specs.Order.{rx_packet_at, octets_of, waiting}
use Rattle.em_driver.specs.Places.{is_among, between}
use Rattle.em_regs.specs.Ring.{following}
use Rattle.em_driver.specs.Receive.{rx_buffer, rx_descriptor}
use Rattle.em_driver.specs.declared.layout.Layout.{Layout}
use Rattle.em_driver.proofs.rings.WrittenDescriptors.{address_stays, filled_back, filled_length, filled_mark}
use Rattle.em_driver.proofs.rings.RingPlaces.{following_in, following_apart, among_end, grow_here, grow_other}
use Rattle.em_driver.proofs.rings.RingPlaces.{between_grow, between_same}
use Rattle.em_driver.proofs.rings.SideRegisters.{rx_side, is_rx_side, SameSetup, SameSide, put_head}
use Rattle.em_driver.proofs.rings.MemoryUnits.{Region, rx_ring, rx_buffers, AreTwo, count_of, size_of, unit, unit_at}
use Rattle.em_driver.proofs.rings.MemoryUnits.{good_same, unit_apart}
use Rattle.em_driver.proofs.rings.MemoryUnits.{unit_within, unit_size, unit_long, part_front}

-- ---- one write to memory

-- octets were written into a unit of memory
pub record Writes (l : Layout) (m n : List ℕ) (k : Region) (j o : ℕ) (d : List ℕ) : Type 0 where
  pub size : length n ≡ length m
  pub here : unit l n k j ≡ put (unit l m k j) o d
  pub long : length (unit l m k j) ≡ size_of k
  pub other : (r : Region) (i : ℕ) → i < count_of l r → AreTwo r i k j → unit l n r i ≡ unit l m r i

pub writes : (l : Layout) (m n : List ℕ) (k : Region) (j o : ℕ) (d : List ℕ) {base : ℕ} → IsGoodLayout base (length m) l
    → j < count_of l k → o + length d ≤ size_of k → n ≡ put m (unit_at l k j + o) d → Writes l m n k j o d
writes l m n k j o d good below inside is =
    let size : length n ≡ length m = ap length is ∙ unit_size l m good k j o d below inside in
    record {
      size = size;
      here = ap (λ x. unit l x k j) is ∙ unit_within l m good k j o d below inside;
      long = unit_long l m good k j below;
      other = λ r i low two. ap (λ x. unit l x r i) is ∙ unit_apart l m good r k i j o d low below inside two;
    }

-- ---- registers

-- an index is kept whole
pub index_kept : (m : Registers) (reg : Reg) (v : ℕ) → value_of (registers.put m reg v) reg ≡ bit_and v 0xFFFF
    → v < 65_536 → value_of (registers.put m reg v) reg ≡ v
index_kept m reg v is less = is ∙ and_mask v 16 ∙ mod-eq_of_lt less

-- ---- what an event of others leaves of the receive side

-- the packets that it added to what waits; the first descriptor, once it is filled, stays
pub record RxMoves (l : Layout) (s t : State) (added : List (List ℕ)) : Type 0 where
  pub but : IsReceivingBut l t
  pub tail : rdt t ≡ rdt s
  pub waiting : waiting l t ≡ waiting l s ++ added
  pub filled : is_filled l s (first l s) ≡ true → is_filled l t (first l s) ≡ true
  pub descriptor : is_filled l s (first l s) ≡ true → rx_at l t (first l s) ≡ rx_at l s (first l s)
  pub buffer : is_filled l s (first l s) ≡ true
      → unit l t.memory rx_buffers (first l s) ≡ unit l s.memory rx_buffers (first l s)
  pub mark : IsFirstMarked l s → IsFirstMarked l t

pub first_same : (l : Layout) (s t : State) → rdt t ≡ rdt s → first l t ≡ first l s
first_same l s t tail = ap (following l.rx_count) tail

pub rx_moves_on : (l : Layout) (s t u : State) (a b : List (List ℕ)) → RxMoves l s t a → RxMoves l t u b
    → RxMoves l s u (a ++ b)
rx_moves_on l s t u a b h k =
    let there : first l t ≡ first l s = first_same l s t h.tail in
    let filled = λ (e : is_filled l s (first l s) ≡ true). ap (is_filled l t) there ∙ h.filled e in
    record {
      but = k.but;
      tail = k.tail ∙ h.tail;
      waiting = k.waiting ∙ ap (λ xs. xs ++ b) h.waiting ∙ append_assoc (waiting l s) a b;
      filled = λ e. ap (is_filled l u) (sym there) ∙ k.filled (filled e);
      descriptor = λ e. ap (rx_at l u) (sym there) ∙ k.descriptor (filled e) ∙ ap (rx_at l t) there ∙ h.descriptor e;
      buffer = λ e. ap (unit l u.memory rx_buffers) (sym there) ∙ k.buffer (filled e)
          ∙ ap (unit l t.memory rx_buffers) there ∙ h.buffer e;
      mark = λ m. k.mark (h.mark m);
    }

-- the ring and the buffers are as they were
pub record SameRing (l : Layout) (s t : State) : Type 0 where
  pub registers : SameSide rx_side s.registers t.registers
  pub descriptors : (i : ℕ) → i < l.rx_count → rx_at l t i ≡ rx_at l s i
  pub buffers : (i : ℕ) → i < l.rx_count → unit l t.memory rx_buffers i ≡ unit l s.memory rx_buffers i
  pub profile : t.profile ≡ s.profile

pub same_ring : (l : Layout) (s t : State) → SameSide rx_side s.registers t.registers → t.memory ≡ s.memory
    → t.profile ≡ s.profile → SameRing l s t
same_ring l s t regs is profile = record {
  registers = regs;
  profile = profile;
  descriptors = λ i low. ap (λ m. unit l m rx_ring i) is;
  buffers = λ i low. ap (λ m. unit l m rx_buffers i) is;
}

-- a packet by the units that it lies in
pub packet_same : (l : Layout) (s t : State) (i : ℕ) → length_of (rx_at l s i) ≤ 2048 → rx_at l t i ≡ rx_at l s i
    → unit l t.memory rx_buffers i ≡ unit l s.memory rx_buffers i → rx_packet_at l t i ≡ rx_packet_at l s i
packet_same l s t i few same buffer =
    let n : ℕ = length_of (rx_at l s i) in
    ap (λ d. part t.memory (rx_buffer l i) (length_of d)) same
    ∙ part_front t.memory (rx_buffer l i) n 2048 few
    ∙ ap (take n) buffer
    ∙ sym (part_front s.memory (rx_buffer l i) n 2048 few)

mark_as : {a b : Bool} {d e : List ℕ} → a ≡ b → d ≡ e → IsMarked b e → IsMarked a d
mark_as {a = a} {b = b} {d = d} {e = e} is same h = subst (λ x. IsMarked x d) (sym is) (subst (IsMarked b) (sym same) h)

-- frames came to the FIFO's end, or none did
pub rx_kept : (l : Layout) (s t : State) (more : List Frame) → IsReceivingBut l s → SameRing l s t
    → t.fifo ≡ record { frames = s.fifo.frames ++ more; taken = s.fifo.taken } → All IsPlain more
    → RxMoves l s t (octets_of more)
rx_kept l s t more h same fifo plain =
    let n : ℕ = l.rx_count in
    let a : first l t ≡ first l s = first_same l s t same.registers.tail in
    let filled : (i : ℕ) → is_filled l t i ≡ is_filled l s i = λ i p. is_among n (a p) (same.registers.head p) i in
    let below : first l s < n = following_in n (rdt s) h.tail in
    let packets : between n (first l t) (rdh t) (rx_packet_at l t) ≡ between n (first l s) (rdh s) (rx_packet_at l s)
    = (λ p. between n (a p) (same.registers.head p) (rx_packet_at l t))
    ∙ between_same n (first l s) (rdh s) (rx_packet_at l t) (rx_packet_at l s) below h.head
    (λ i low e. packet_same l s t i (omega (arith, (h.lengths i low e).most)) (same.descriptors i low)
    (same.buffers i low)) in
    record {
      but = record {
        rctl = same.registers.setup.control ∙ h.rctl;
        base = same.registers.setup.base ∙ h.base;
        len = same.registers.setup.len ∙ h.len;
        head = subst (λ x. x < n) (sym same.registers.head) h.head;
        tail = subst (λ x. x < n) (sym same.registers.tail) h.tail;
        untagged = same.registers.setup.vme ∙ h.untagged;
        profile = same.profile ∙ h.profile;
        addresses = λ i low. ap (little_number 8) (same.descriptors i low) ∙ h.addresses i low;
        lengths = λ i low e. subst (λ d. IsUsualLength (length_of d)) (sym (same.descriptors i low))
            (h.lengths i low (sym (filled i) ∙ e));
        marks = λ i low other. mark_as (filled i) (same.descriptors i low)
            (h.marks i low (λ e. other (e ∙ sym a)));
        frames = subst (All IsPlain) (sym (ap (λ f. f.frames) fifo))
            (All-append IsPlain s.fifo.frames more h.frames plain);
        taken = ap (λ f. f.taken) fifo ∙ h.taken;
      };
      tail = same.registers.tail;
      waiting = (λ p. packets p ++ octets_of (fifo p).frames)
          ∙ ap (λ x. between n (first l s) (rdh s) (rx_packet_at l s) ++ x)
          (map-append (λ f. f.octets) s.fifo.frames more)
          ∙ sym (append_assoc (between n (first l s) (rdh s) (rx_packet_at l s)) (octets_of s.fifo.frames)
          (octets_of more));
      filled = λ e. filled (first l s) ∙ e;
      descriptor = λ e. same.descriptors (first l s) below;
      buffer = λ e. same.buffers (first l s) below;
      mark = λ m. mark_as (ap (is_filled l t) a ∙ filled (first l s))
          (ap (rx_at l t) a ∙ same.descriptors (first l s) below) m;
    }

-- nothing of the receive side changed
pub rx_same : (l : Layout) (s t : State) → IsReceivingBut l s → SameRing l s t → t.fifo ≡ s.fifo → RxMoves l s t []
rx_same l s t h same fifo =
    let none : t.fifo ≡ record { frames = s.fifo.frames ++ []; taken = s.fifo.taken }
    = fifo ∙ λ i. record { frames = sym (append-nil s.fifo.frames) i; taken = s.fifo.taken } in
    rx_kept l s t [] h same none (λ k d low. absurd (omega arith))

-- ---- a frame that goes into the ring

-- the frame f went into the descriptor at RDH
pub record Fills (l : Layout) (s t : State) (f : List ℕ) (frames : List Frame) : Type 0 where
  pub setup : SameSetup rx_side s.registers t.registers
  pub head : rdh t ≡ following l.rx_count (rdh s)
  pub tail : rdt t ≡ rdt s
  pub apart : rdh s ≢ rdt s
  pub usual : IsUsual f
  pub was : s.fifo.frames ≡ plain f ∷ frames
  pub fifo : t.fifo ≡ record { frames = frames; taken = 0 }
  pub descriptors : (i : ℕ) → i < l.rx_count → i ≢ rdh s → rx_at l t i ≡ rx_at l s i
  pub buffers : (i : ℕ) → i < l.rx_count → i ≢ rdh s → unit l t.memory rx_buffers i ≡ unit l s.memory rx_buffers i
  pub address : little_number 8 (rx_at l t (rdh s)) ≡ rx_buffer l (rdh s)
  pub length : length_of (rx_at l t (rdh s)) ≡ length f
  pub mark : slice_index (rx_at l t (rdh s)) 12 ≡ 0x07
  pub packet : rx_packet_at l t (rdh s) ≡ f
  pub profile : t.profile ≡ s.profile

pub moves_fill : (l : Layout) (s t : State) (f : List ℕ) (frames : List Frame) → IsReceivingBut l s
    → Fills l s t f frames → RxMoves l s t []
moves_fill l s t f frames h k =
    let n : ℕ = l.rx_count in
    let b : ℕ = rdh s in
    let a : ℕ = first l s in
    let low_a : a < n = following_in n (rdt s) h.tail in
    let a_is : first l t ≡ a = first_same l s t k.tail in
    let room : following n b ≢ a = following_apart n b (rdt s) h.head h.tail k.apart in
    let now : (i : ℕ) → is_filled l t i ≡ is_among n a (following n b) i = λ i p. is_among n (a_is p) (k.head p) i in
    let here : is_filled l t b ≡ true = now b ∙ grow_here n a b low_a h.head room in
    let there : (i : ℕ) → i < n → i ≢ b → is_filled l t i ≡ is_filled l s i
    = λ i low other. now i ∙ grow_other n a b i low_a h.head room low other in
    let not_end : is_filled l s a ≡ true → a ≢ b
    = λ e is. absurd (let no : true ≡ false = sym e ∙ ap (λ x. is_among n a b x) is ∙ among_end n a b in cc) in
    let marked_here : IsMarked (is_filled l t b) (rx_at l t b)
    = subst (λ x. IsMarked x (rx_at l t b)) (sym here) k.mark in
    let each : (i : ℕ) → i < n → IsMarked (is_filled l s i) (rx_at l s i) → IsMarked (is_filled l t i) (rx_at l t i)
    = λ i low m. elim (cases_eq i b) [
      | inl e ↦ subst (λ x. IsMarked (is_filled l t x) (rx_at l t x)) (sym e) marked_here
      | inr e ↦ mark_as (there i low e) (k.descriptors i low e) m
    ] in
    let old : between n a b (rx_packet_at l t) ≡ between n a b (rx_packet_at l s)
    = between_same n a b (rx_packet_at l t) (rx_packet_at l s) low_a h.head (λ i low e.
    let other : i ≢ b = λ is. absurd (let no : true ≡ false = sym e ∙ ap (λ x. is_among n a b x) is
    ∙ among_end n a b in cc) in
    packet_same l s t i (omega (arith, (h.lengths i low e).most)) (k.descriptors i low other)
    (k.buffers i low other)) in
    let packets : between n (first l t) (rdh t) (rx_packet_at l t) ≡ between n a b (rx_packet_at l s) ++ f ∷ []
    = (λ p. between n (a_is p) (k.head p) (rx_packet_at l t))
    ∙ between_grow n a b (rx_packet_at l t) low_a h.head room
    ∙ (λ p. old p ++ k.packet p ∷ []) in
    record {
      but = record {
        rctl = k.setup.control ∙ h.rctl;
        base = k.setup.base ∙ h.base;
        len = k.setup.len ∙ h.len;
        head = subst (λ x. x < n) (sym k.head) (following_in n b h.head);
        tail = subst (λ x. x < n) (sym k.tail) h.tail;
        untagged = k.setup.vme ∙ h.untagged;
        profile = k.profile ∙ h.profile;
        addresses = λ i low. elim (cases_eq i b) [
          | inl e ↦ subst (λ x. little_number 8 (rx_at l t x) ≡ rx_buffer l x) (sym e) k.address
          | inr e ↦ ap (little_number 8) (k.descriptors i low e) ∙ h.addresses i low
        ];
        lengths = λ i low e. elim (cases_eq i b) [
          | inl is ↦ subst (λ x. IsUsualLength (length_of (rx_at l t x))) (sym is)
              (subst IsUsualLength (sym k.length) (record { least = k.usual.least; most = k.usual.most }))
          | inr is ↦ subst (λ d. IsUsualLength (length_of d)) (sym (k.descriptors i low is))
              (h.lengths i low (sym (there i low is) ∙ e))
        ];
        marks = λ i low other. each i low (h.marks i low (λ e. other (e ∙ sym a_is)));
        frames = subst (All IsPlain) (sym (ap (λ x. x.frames) k.fifo))
            (All-rest IsPlain (plain f) frames s.fifo.frames k.was h.frames);
        taken = ap (λ x. x.taken) k.fifo;
      };
      tail = k.tail;
      waiting = (λ p. packets p ++ octets_of (k.fifo p).frames)
          ∙ append_assoc (between n a b (rx_packet_at l s)) (f ∷ []) (octets_of frames)
          ∙ ap (λ x. between n a b (rx_packet_at l s) ++ octets_of x) (sym k.was)
          ∙ sym (append-nil (waiting l s));
      filled = λ e. there a low_a (not_end e) ∙ e;
      descriptor = λ e. k.descriptors a low_a (not_end e);
      buffer = λ e. k.buffers a low_a (not_end e);
      mark = λ m. subst (λ x. IsMarked (is_filled l t x) (rx_at l t x)) (sym a_is) (each a low_a m);
    }

-- ---- a receive step

-- the two writes of a receive step
pub record RxWrites (l : Layout) (s t : State) (f : List ℕ) : Type 0 where
  pub mid : List ℕ
  pub packet : Writes l s.memory mid rx_buffers (rdh s) 0 f
  pub back : Writes l mid t.memory rx_ring (rdh s) 8 (filled_back (length f))

-- the first profile tells of no frame that it came past an inexact filter
none_inexact : (s : State) → s.profile ≡ Table → (rx_control s).inexact ≡ false
none_inexact s first =
    ap (λ (p : Profile). comes_inexact p s.registers s.fifo.frames) first
    ∙ exact_in_the_first s.registers s.fifo.frames

-- and each of its descriptors takes octets
takes_all : (a : ℕ) → is_null_at Table a ≡ false
unfolding is_null_at
takes_all a = refl

pub takes_octets : (s : State) → s.profile ≡ Table →
    rx.is_null (rx_control s) (rx.descriptor (rx_control s) s.memory) ≡ false
takes_octets s first =
    let a : ℕ = rx.buffer_at (rx_control s) s.memory in
    ap (λ (p : Profile). is_null_at p a) first ∙ takes_all a

pub rx_writes : (l : Layout) (s t : State) (f : List ℕ) (frames : List Frame) → IsLaidOut l s → IsReceivingBut l s
    → ReceivesWhole s f frames t → RxWrites l s t f
rx_writes l s t f frames laid h r =
    let q = rx_control s in
    let b : ℕ = rdh s in
    let at : rx.descriptor_at q ≡ rx_descriptor l b = ap (λ x. x + 16 * b) h.base in
    let buffer : rx.buffer_at q s.memory ≡ rx_buffer l b
    = ap (λ x. little_number 8 (part s.memory x 16)) at ∙ h.addresses b h.head in
    let zero : rx_buffer l b ≡ unit_at l rx_buffers b + 0 = omega arith in
    let mid : List ℕ = put s.memory (unit_at l rx_buffers b + 0) f in
    let one = writes l s.memory mid rx_buffers b 0 f laid.good h.head (omega (arith, r.usual.most)) refl in
    record {
      mid = mid;
      packet = one;
      back = writes l mid t.memory rx_ring b 8 (filled_back (length f)) (good_same l refl one.size laid.good) h.head (omega arith)
          (
          r.memory
          ∙ λ p. put (put s.memory ((buffer ∙ zero) p) f) (at p + 8)
          (length f % 256 ∷ length f / 256 ∷ 0 ∷ 0
          ∷ (if none_inexact s h.profile p then 0x87 else 0x07) ∷ 0 ∷ 0 ∷ 0 ∷ [])
          );
    }

pub fills : (l : Layout) (s t : State) (f : List ℕ) (frames : List Frame) → IsLaidOut l s → IsReceivingBut l s
    → ReceivesWhole s f frames t → Fills l s t f frames
fills l s t f frames laid h r =
    let n : ℕ = l.rx_count in
    let b : ℕ = rdh s in
    let q = rx_setup s.registers in
    let w = rx_writes l s t f frames laid h r in
    let count : q.count ≡ n = ap (λ v. v / 16) h.len ∙ omega arith in
    let next : rx.following q ≡ following n b = ap (λ c. following c b) count in
    let low : following n b < 65_536 = omega (arith, following_in n b h.head, laid.good.receive.count.most) in
    let regs : t.registers ≡ registers.put s.registers Rdh (following n b)
    = r.registers ∙ ap (registers.put s.registers Rdh) next in
    let here : rx_at l t b ≡ put (rx_at l s b) 8 (filled_back (length f))
    = w.back.here ∙ ap (λ d. put d 8 (filled_back (length f))) (w.packet.other rx_ring b h.head tt) in
    let long : length (rx_at l s b) ≡ 16 = unit_long l s.memory laid.good rx_ring b h.head in
    let is_long : length_of (rx_at l t b) ≡ length f = ap length_of here ∙ filled_length (rx_at l s b)
    (length f) long in
    let buffer : unit l t.memory rx_buffers b ≡ put (unit l s.memory rx_buffers b) 0 f
    = w.back.other rx_buffers b h.head tt ∙ w.packet.here in
    record {
      setup = subst (SameSetup rx_side s.registers) (sym regs) (put_head is_rx_side s.registers (following n b));
      head = ap (λ m. value_of m Rdh) regs
          ∙ index_kept s.registers Rdh (following n b) (put_same s.registers Rdh (following n b)) low;
      tail = ap (λ m. value_of m Rdt) regs ∙ put_other s.registers Rdh Rdt (following n b) (λ e. omega arith);
      apart = r.apart;
      usual = r.usual;
      was = r.first;
      fifo = r.fifo;
      descriptors = λ i inside other. w.back.other rx_ring i inside other ∙ w.packet.other rx_ring i inside tt;
      buffers = λ i inside other. w.back.other rx_buffers i inside tt ∙ w.packet.other rx_buffers i inside other;
      address = ap (little_number 8) here ∙ address_stays (rx_at l s b) 8 (filled_back (length f)) (omega arith)
          (omega (arith, long))
          ∙ h.addresses b h.head;
      length = is_long;
      mark = ap (λ d. slice_index d 12) here ∙ filled_mark (rx_at l s b) (length f) long;
      packet = ap (part t.memory (rx_buffer l b)) is_long
          ∙ part_front t.memory (rx_buffer l b) (length f) 2048 (omega (arith, r.usual.most))
          ∙ ap (take (length f)) buffer
          ∙ take_at f (drop (0 + length f) (unit l s.memory rx_buffers b)) (length f) refl;
      profile = r.profile;
    }

-- the receive ring's setup
pub buffer_whole : (l : Layout) (s : State) → IsReceivingBut l s → (rx_setup s.registers).buffer ≡ 2048
buffer_whole l s h = ap buffer_size h.rctl

-- frames are stored without their check sequences
pub no_sequences : (s : State) → s.profile ≡ Table → keeps_sequence s ≡ false
no_sequences s first = ap (λ (p : Profile). is_adapter p && not (has (value_of s.registers Rctl) 0x0400_0000)) first

pub no_long_frames : (l : Layout) (s : State) → IsReceivingBut l s → takes_long s.profile s.registers ≡ false
no_long_frames l s h =
    ap (λ (p : Profile). takes_long p s.registers) h.profile ∙ ap (λ v. bit_and v 0x20 == 0x20) h.rctl
