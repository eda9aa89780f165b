-- The stages of a start while the device receives and does not send: its transmit ring is made.
use Rattle.std.proofs.Common.{◌≡◌, ◌≢◌, ◌∙◌, ℕ, ◌+◌, ◌-◌, ◌*◌, ◌/◌, ◌%◌, ◌<◌, ◌≤◌, ◌==◌, true, false}
use Rattle.std.proofs.Common.{List, [], ◌∷◌, ◌++◌, length, replicate, refl, sym, ap, subst, inl, inr, arith}
use Rattle.std.proofs.Common.{append-nil, Some, if◌then◌else◌}
use Rattle.std.specs.Prelude.{◌⊎◌, bit_and, All}
use Rattle.std.proofs.lemmas.Bool.{cases_eq}
use Rattle.std.proofs.lemmas.Bool.Decides.{nat_tests}
use Rattle.byteorder.specs.Endian.{little_number}
use Rattle.byteorder.specs.Numbers.{little_number-reads_back}
use Rattle.em_mem.specs.Memory.{put}
use Rattle.em_regs.specs.declared.reg.Reg.{Reg}
use Rattle.em_regs.specs.declared.reg.Reg.TheVariants.{Ctrl, Rctl, Rdbal, Rdbah, Rdh}
use Rattle.em_regs.specs.declared.reg.Reg.TheVariants.{Tctl, Tipg, Tdbal, Tdbah, Tdlen, Tdh, Tdt}
use Rattle.em_regs.specs.RegFile as registers
use Rattle.em_regs.specs.Setup.{value_of}
use Rattle.em_regs.specs.Storage.{Registers}
use Rattle.em_regs.specs.declared.profile.Profile.{Profile}
use Rattle.em_regs.specs.Table.{mask_of, offset_of, reg_of}
use Rattle.em_regs.proofs.ProfileLaws.{reg_of-offset_of}
use Rattle.em_latch.specs.Latches.{is_latched}
use Rattle.em_step.specs.Access.{after_write}
use Rattle.em_step.specs.State.{State}
use Rattle.em_step.specs.Whole.{IsPlain, padded}
use Rattle.em_step.proofs.SetupLaws.{put_same, put_other}
use Rattle.em_driver.specs.Course.{write}
use Rattle.em_driver.specs.Descriptor.{is_done}
use Rattle.em_driver.specs.Driven.{first, is_filled, is_queued, rdh, rdt, rx_at, tdh, tdt}
use Rattle.em_driver.specs.Driven.{IsDriven, IsFirstMarked, IsLaidOut, IsMarked, IsReceivingBut}
use Rattle.em_driver.specs.Layout.{IsGoodLayout, IsPlaced}
use Rattle.em_driver.specs.Order.{octets_of, queued, rx_packet_at, tx_packet_at, waiting}
use Rattle.em_driver.specs.Places.{between, is_among}
use Rattle.em_regs.specs.Ring.{following}
use Rattle.em_driver.specs.Receive.{rx_buffer}
use Rattle.em_driver.specs.Start.{Part, memory, fresh_descriptor, descriptors}
use Rattle.em_driver.specs.Transmit.{tx_buffer, tx_descriptor}
use Rattle.em_turn.specs.Turn.{stored_by}
use Rattle.em_driver.specs.declared.layout.Layout.{Layout}
use Rattle.em_turn.specs.declared.turn.Turn.TheVariants.{Arrive, RxStep, TxStep}
use Rattle.em_driver.proofs.order.HandedOver.{put_whole}
use Rattle.em_driver.proofs.bring_up.HeldRegisters.{Entries, Hold, are_others, hold_other, base_low, base_high, base_is}
use Rattle.em_driver.proofs.bring_up.HeldRegisters.{ring_length, lie_in, hold_elsewhere}
use Rattle.em_driver.proofs.bring_up.RxRingMade.{IsMaking, making_closed, rx_entries}
use Rattle.em_driver.proofs.bring_up.DeviceOff.{tx_idle}
use Rattle.em_driver.proofs.rings.RingPlaces.{among_none, between_none}
use Rattle.em_driver.proofs.rings.ReceiveRing.{RxMoves, rx_same, same_ring}
use Rattle.em_driver.proofs.rings.ReceiveRing.{writes as writes_unit}
use Rattle.em_driver.proofs.rings.SideRegisters.{rx_side, is_rx_side, same_side, IsOther, put_other_side}
use Rattle.em_driver.proofs.order.EventsOfOthers.{rx_elsewhere, same_sides}
use Rattle.em_driver.proofs.order.Stages.{IsClosed, IsClosedByTurns, IsClosedElsewhere, closed_by, Brings, brings_all}
use Rattle.em_driver.proofs.order.Stages.{brings_both, brings_memory, brings_write}
use Rattle.em_driver.proofs.rings.OneTurn.{RxTurn, arrival_turn, receive_turn, laid_same}
use Rattle.em_driver.proofs.rings.MemoryUnits.{rx_ring, rx_buffers, tx_ring, unit, unit_at}
use Rattle.em_driver.proofs.order.Accessed.{poked, written}

-- ---- fresh descriptors

fresh_address : (b : ℕ) → b < 0x1_0000_0000_0000_0000 → little_number 8 (fresh_descriptor b) ≡ b
fresh_address b less = little_number-reads_back 8 b (replicate 8 0) less

fresh_mark : (b : ℕ) → is_done (fresh_descriptor b) ≡ false
unfolding is_done
fresh_mark b = refl

-- ---- the stages

-- The device receives as the driver keeps it and does not send; these registers hold these numbers, and the first k
-- transmit descriptors are made. What was stored waits, and nothing was sent.
pub record IsListening (l : Layout) (sent : List (List ℕ)) (entries : Entries) (k : ℕ) (s : State)
    (stored : List (List ℕ)) : Type 0
  where
    pub layout : IsLaidOut l s
    pub receiving : IsReceivingBut l s
    pub marked : IsFirstMarked l s
    pub waits : waiting l s ≡ stored
    pub tctl : value_of s.registers Tctl ≡ 0
    pub gathered : s.gathered ≡ []
    pub holds : Hold s.registers entries
    pub fresh : (i : ℕ) → i < k → unit l s.memory tx_ring i ≡ fresh_descriptor (tx_buffer l i)
    pub wire : s.wire ≡ sent

hold_rdh : (m n : Registers) (entries : Entries) → are_others (offset_of Rdh) entries ≡ true
    → (n ≡ m) ⊎ ((next : ℕ) × (n ≡ registers.put m Rdh next)) → Hold m entries → Hold n entries
hold_rdh m n entries others (inl same) h = subst (λ x. Hold x entries) (sym same) h
hold_rdh m n entries others (inr (next, is)) h =
    subst (λ x. Hold x entries) (sym is) (hold_other m Rdh next entries others h)

listening_turn : (l : Layout) (sent : List (List ℕ)) (entries : Entries) (k : ℕ) (s t : State)
    (stored added : List (List ℕ))
    → k ≤ l.tx_count → are_others (offset_of Rdh) entries ≡ true → IsListening l sent entries k s stored
    → RxTurn l s t added → IsListening l sent entries k t (stored ++ added)
listening_turn l sent entries k s t stored added few others h r = record {
  layout = r.layout;
  receiving = r.receiving.but;
  marked = r.receiving.mark h.marked;
  waits = r.receiving.waiting ∙ ap (λ x. x ++ added) h.waits;
  tctl = r.sending.registers.setup.control ∙ h.tctl;
  gathered = r.sending.gathered ∙ h.gathered;
  holds = hold_rdh s.registers t.registers entries others r.registers h.holds;
  fresh = λ i low. r.sending.descriptors i (omega arith) ∙ h.fresh i low;
  wire = r.sending.wire ∙ h.wire;
}

listening_turns : (l : Layout) (sent : List (List ℕ)) (entries : Entries) (k : ℕ) → k ≤ l.tx_count
    → are_others (offset_of Rdh) entries ≡ true → IsClosedByTurns (IsListening l sent entries k)
listening_turns l sent entries k few others s stored (Arrive f) r h is =
    listening_turn l sent entries k s r.1 stored (stored_by (Arrive f) r.0) few others h
    (arrival_turn l s f r h.layout h.receiving is)
listening_turns l sent entries k few others s stored RxStep r h is =
    listening_turn l sent entries k s r.1 stored [] few others h (receive_turn l s r h.layout h.receiving is)
listening_turns l sent entries k few others s stored TxStep r h is =
    let same : s ≡ r.1 = ap (λ x. x.1) (tx_idle s r h.tctl is) in
    subst (IsListening l sent entries k r.1) (sym (append-nil stored))
    (subst (λ x. IsListening l sent entries k x stored) same h)

listening_elsewhere : (l : Layout) (sent : List (List ℕ)) (entries : Entries) (k : ℕ) → k ≤ l.tx_count
    → lie_in 0x3800 0x3818 entries ≡ true → IsClosedElsewhere l (IsListening l sent entries k)
listening_elsewhere l sent entries k few own s t stored h e =
    let r = rx_elsewhere l s t h.receiving e in
    record {
      layout = laid_same l s t e.base e.size h.layout;
      receiving = r.but;
      marked = r.mark h.marked;
      waits = r.waiting ∙ append-nil (waiting l s) ∙ h.waits;
      tctl = (same_sides s.registers t.registers e.registers).1.setup.control ∙ h.tctl;
      gathered = e.gathered ∙ h.gathered;
      holds = hold_elsewhere s.registers t.registers 0x3800 0x3818 entries own (λ o out. out.tx_ring) e.registers
          h.holds;
      fresh = λ i low. e.units tx_ring i (omega arith) ∙ h.fresh i low;
      wire = e.wire ∙ h.wire;
    }

-- of the registers that are held none lies outside the ring's
pub listening_closed : (l : Layout) (sent : List (List ℕ)) (entries : Entries) (k : ℕ) → k ≤ l.tx_count
    → are_others (offset_of Rdh) entries ≡ true → lie_in 0x3800 0x3818 entries ≡ true
    → IsClosed l (IsListening l sent entries k)
listening_closed l sent entries k few others own =
    closed_by l (IsListening l sent entries k) (listening_turns l sent entries k few others)
    (listening_elsewhere l sent entries k few own)

-- ---- receiving begins

-- the ring is empty for the driver: the first descriptor is the one at RDH
none_filled : (l : Layout) (s : State) → 8 ≤ l.rx_count → rdt s ≡ l.rx_count - 1 → rdh s ≡ 0 → first l s ≡ rdh s
none_filled l s least tail head =
    let last : following l.rx_count (l.rx_count - 1) ≡ 0 = grind (arith, nat_tests) in
    ap (following l.rx_count) tail ∙ last ∙ sym head

enabled_receiving : (l : Layout) (sent : List (List ℕ)) (s : State) (stored : List (List ℕ)) → IsPlaced l
    → IsMaking l sent (rx_entries l) l.rx_count s stored
    → IsListening l sent [] 0 (record s { registers = registers.put s.registers Rctl 0x801A }) stored
enabled_receiving l sent s stored placed h =
    let n : ℕ = l.rx_count in
    let t : State = record s { registers = registers.put s.registers Rctl 0x801A } in
    let least = h.good.receive.count.least in
    let kept = hold_other s.registers Rctl 0x801A (rx_entries l) refl h.holds in
    let tail : rdt t ≡ n - 1 = kept.0 in
    let head : rdh t ≡ 0 = kept.1.0 in
    let same = none_filled l t least tail head in
    let none : (i : ℕ) → is_filled l t i ≡ false
    = λ i. ap (λ a. is_among n a (rdh t) i) same ∙ among_none n (rdh t) i in
    let at : (i : ℕ) → i < n → rx_at l t i ≡ fresh_descriptor (rx_buffer l i) = h.fresh in
    let mark : (i : ℕ) → i < n → IsMarked (is_filled l t i) (rx_at l t i)
    = λ i low. subst (λ b. IsMarked b (rx_at l t i)) (sym (none i))
    (ap is_done (at i low) ∙ fresh_mark (rx_buffer l i)) in
    let inside = placed.receive.inside.buffers in
    let begins : first l t < n = omega (arith, same, head, least) in
    record {
      layout = record { good = h.good; placed = placed };
      receiving = record {
        rctl = put_same s.registers Rctl 0x801A;
        base = base_is t.registers Rdbah Rdbal l.rx_ring kept.1.1.1.0 kept.1.1.1.1.0;
        len = kept.1.1.0;
        head = omega (arith, head, least);
        tail = omega (arith, tail, least);
        untagged = ap (λ v. bit_and v 0x4000_0000 == 0x4000_0000)
            (put_other s.registers Rctl Ctrl 0x801A (λ e. omega arith))
            ∙ h.off.untagged;
        profile = h.off.profile;
        addresses = λ i low. ap (little_number 8) (at i low) ∙ fresh_address (rx_buffer l i) (omega (arith, inside));
        lengths = λ i low e. absurd (let not_so : true ≡ false = sym e ∙ none i in cc);
        marks = λ i low other. mark i low;
        frames = subst (All IsPlain) (sym (ap (λ x. x.frames) h.off.fifo)) (λ k d low. absurd (omega arith));
        taken = ap (λ x. x.taken) h.off.fifo;
      };
      marked = mark (first l t) begins;
      waits = (λ p. between n (same p) (rdh t) (rx_packet_at l t) ++ octets_of (h.off.fifo p).frames)
          ∙ ap (λ x. x ++ []) (between_none n (rdh t) (rx_packet_at l t)) ∙ sym h.none;
      tctl = put_other s.registers Rctl Tctl 0x801A (λ e. omega arith) ∙ h.off.tctl;
      gathered = h.off.gathered;
      holds = tt;
      fresh = λ i low. absurd (omega arith);
      wire = h.wire;
    }

pub receiving_enabled : (l : Layout) (sent : List (List ℕ)) → IsPlaced l
    → Brings l (IsMaking l sent (rx_entries l) l.rx_count) (IsListening l sent [] 0) (write Rctl 0x0000_801A)
receiving_enabled l sent placed =
    brings_write l (IsMaking l sent (rx_entries l) l.rx_count) (IsListening l sent [] 0) Rctl 0x801A
    (making_closed l sent (rx_entries l) l.rx_count (omega arith) refl)
    (λ s t stored h is.
    subst (λ x. IsListening l sent [] 0 x stored)
    (sym (written s t (offset_of Rctl) Rctl 0x801A (λ p. reg_of-offset_of p Rctl (omega arith) refl) refl (λ x. refl) is))
    (enabled_receiving l sent s stored placed h))

-- ---- registers

-- an offset of no register that the receive side goes by, nor of TCTL
pub record IsQuiet (o : ℕ) : Type 0 where
  pub receiving : IsOther rx_side o
  pub tctl : o ≢ 0x400

listening_put : (l : Layout) (sent : List (List ℕ)) (entries : Entries) (k : ℕ) (s : State) (stored : List (List ℕ))
    (reg : Reg)
    (v u : ℕ) → IsQuiet (offset_of reg) → are_others (offset_of reg) entries ≡ true → bit_and v (mask_of reg) ≡ u
    → IsListening l sent entries k s stored
    → IsListening l sent ((reg, u) ∷ entries) k (record s { registers = registers.put s.registers reg v }) stored
listening_put l sent entries k s stored reg v u quiet others kept h =
    let t : State = record s { registers = registers.put s.registers reg v } in
    let r : RxMoves l s t []
    = rx_same l s t h.receiving
    (same_ring l s t (put_other_side is_rx_side s.registers reg v quiet.receiving) refl refl) refl in
    record {
      layout = laid_same l s t refl refl h.layout;
      receiving = r.but;
      marked = r.mark h.marked;
      waits = r.waiting ∙ append-nil (waiting l s) ∙ h.waits;
      tctl = put_other s.registers reg Tctl v (λ e. quiet.tctl (sym e)) ∙ h.tctl;
      gathered = h.gathered;
      holds = (put_same s.registers reg v ∙ kept, hold_other s.registers reg v entries others h.holds);
      fresh = h.fresh;
      wire = h.wire;
    }

listening_write : (l : Layout) (sent : List (List ℕ)) (entries : Entries) (k : ℕ) (reg : Reg) (v u : ℕ) → k ≤ l.tx_count
    → are_others (offset_of Rdh) entries ≡ true → lie_in 0x3800 0x3818 entries ≡ true → IsQuiet (offset_of reg)
    → are_others (offset_of reg) entries ≡ true → ((p : Profile) → reg_of p (offset_of reg) ≡ Some reg) → is_latched reg ≡ false
    → ((x : State) → after_write x reg v
    ≡ (if is_latched reg then x else record x { registers = registers.put x.registers reg v }))
    → bit_and v (mask_of reg) ≡ u
    → Brings l (IsListening l sent entries k) (IsListening l sent ((reg, u) ∷ entries) k) (write reg v)
listening_write l sent entries k reg v u few no_head own quiet others there latched by kept =
    brings_write l (IsListening l sent entries k) (IsListening l sent ((reg, u) ∷ entries) k) reg v
    (listening_closed l sent entries k few no_head own)
    (λ s t stored h is.
    subst (λ x. IsListening l sent ((reg, u) ∷ entries) k x stored)
    (sym (written s t (offset_of reg) reg v there latched by is))
    (listening_put l sent entries k s stored reg v u quiet others kept h))

-- what a register holds is not told on: others may write TIPG
listening_less : (l : Layout) (sent : List (List ℕ)) (entry : Reg × ℕ) (entries : Entries) (k : ℕ) (part : Part)
    → Brings l (IsListening l sent entries k) (IsListening l sent (entry ∷ entries) k) part
    → Brings l (IsListening l sent entries k) (IsListening l sent entries k) part
listening_less l sent entry entries k part brings before w v more n h f =
    let r = brings before w v more n h f in
    let at = r.at.holds in
    record {
      world = r.world;
      events = r.events;
      at = record {
        stored = r.at.stored;
        is = r.at.is;
        holds = record {
          layout = at.layout;
          receiving = at.receiving;
          marked = at.marked;
          waits = at.waits;
          tctl = at.tctl;
          gathered = at.gathered;
          holds = at.holds.1;
          fresh = at.fresh;
          wire = at.wire;
        };
        spared = r.at.spared;
      };
      follows = r.follows;
    }

-- ---- the transmit ring

-- one descriptor more
descriptor_made : (l : Layout) (sent : List (List ℕ)) (k : ℕ) → k < l.tx_count
    → Brings l (IsListening l sent [] k) (IsListening l sent [] (k + 1))
    (memory (l.tx_ring + 16 * k) (fresh_descriptor (l.tx_buffers + 2048 * k)))
descriptor_made l sent k low =
    let d : List ℕ = fresh_descriptor (tx_buffer l k) in
    brings_memory l (IsListening l sent [] k) (IsListening l sent [] (k + 1)) (l.tx_ring + 16 * k) d
    (listening_closed l sent [] k (omega arith) refl refl)
    (λ s t stored h is.
    let m : List ℕ = put s.memory (tx_descriptor l k) d in
    let now : State = record s { memory = m } in
    let long : length d ≡ 16 = refl in
    let zero : tx_descriptor l k ≡ unit_at l tx_ring k + 0 = omega arith in
    let w = writes_unit l s.memory m tx_ring k 0 d h.layout.good low (omega (arith, long))
    (ap (λ a. put s.memory a d) zero) in
    let here : unit l m tx_ring k ≡ d = w.here ∙ put_whole (unit l s.memory tx_ring k) d (w.long ∙ sym long) in
    let r : RxMoves l s now []
    = rx_same l s now h.receiving
    (record {
      registers = same_side rx_side s.registers s.registers refl;
      descriptors = λ i below. w.other rx_ring i below tt;
      buffers = λ i below. w.other rx_buffers i below tt;
      profile = refl;
    }) refl in
    let made : IsListening l sent [] (k + 1) now stored = record {
      layout = laid_same l s now refl w.size h.layout;
      receiving = r.but;
      marked = r.mark h.marked;
      waits = r.waiting ∙ append-nil (waiting l s) ∙ h.waits;
      tctl = h.tctl;
      gathered = h.gathered;
      holds = tt;
      fresh = λ i below. elim (cases_eq i k) [
        | inl e ↦ subst (λ j. unit l m tx_ring j ≡ fresh_descriptor (tx_buffer l j)) (sym e) here
        | inr e ↦ w.other tx_ring i (omega arith) e ∙ h.fresh i (omega arith)
      ];
      wire = h.wire;
    } in
    subst (λ x. IsListening l sent [] (k + 1) x stored) (sym (poked s t (tx_descriptor l k) d is)) made)

pub tx_descriptors_made : (l : Layout) (sent : List (List ℕ))
    → Brings l (IsListening l sent [] 0) (IsListening l sent [] l.tx_count)
    (descriptors l.tx_ring l.tx_count l.tx_buffers)
unfolding descriptors
tx_descriptors_made l sent =
    brings_all l (IsListening l sent []) (λ i. memory (l.tx_ring + 16 * i) (fresh_descriptor (l.tx_buffers + 2048 * i)))
    l.tx_count (descriptor_made l sent)

-- what the ring's registers hold in the end
abbrev pub tx_entries : Layout → Entries
tx_entries l =
    (Tdt, 0) ∷ (Tdh, 0) ∷ (Tdlen, 16 * l.tx_count) ∷ (Tdbah, l.tx_ring / 0x1_0000_0000)
    ∷ (Tdbal, l.tx_ring % 0x1_0000_0000) ∷ []

abbrev pub tx_registers : Layout → Part
tx_registers l more =
    write Tdbal (l.tx_ring % 0x1_0000_0000)
    (write Tdbah (l.tx_ring / 0x1_0000_0000)
    (write Tdlen (16 * l.tx_count)
    (write Tdh 0
    (write Tdt 0
    (write Tipg 0x0060_200A more)))))

quiet : (o : ℕ) → 0x0400 < o → (0x2800 ≤ o → 0x2818 < o) → IsQuiet o
quiet o low ring =
    record {
      receiving = record { ctrl = λ e. omega arith; control = λ e. omega arith; ring = ring };
      tctl = λ e. omega
          arith;
    }

pub tx_registers_made : (l : Layout) (sent : List (List ℕ)) (base end : ℕ) → IsGoodLayout base end l → IsPlaced l
    → Brings l (IsListening l sent [] l.tx_count) (IsListening l sent (tx_entries l) l.tx_count) (tx_registers l)
tx_registers_made l sent base end good placed =
    let n : ℕ = l.tx_count in
    let low : ℕ = l.tx_ring % 0x1_0000_0000 in
    let high : ℕ = l.tx_ring / 0x1_0000_0000 in
    let at = λ (entries : Entries). IsListening l sent entries n in
    let a : Entries = (Tdbal, low) ∷ [] in
    let b : Entries = (Tdbah, high) ∷ a in
    let c : Entries = (Tdlen, 16 * n) ∷ b in
    let d : Entries = (Tdh, 0) ∷ c in
    let e : Entries = (Tdt, 0) ∷ d in
    let inside = placed.transmit.inside.ring in
    let all : n ≤ l.tx_count = omega arith in
    brings_both l (at []) (at a) (at (tx_entries l)) (write Tdbal low) _
    (listening_write l sent [] n Tdbal low low all refl refl
    (quiet (offset_of Tdbal) (omega arith) (λ x. omega arith)) refl
    (λ p. reg_of-offset_of p Tdbal (omega arith) refl) refl (λ x. refl) (base_low l.tx_ring good.transmit.aligned))
    (brings_both l (at a) (at b) (at (tx_entries l)) (write Tdbah high) _
    (listening_write l sent a n Tdbah high high all refl refl
    (quiet (offset_of Tdbah) (omega arith) (λ x. omega arith)) refl
    (λ p. reg_of-offset_of p Tdbah (omega arith) refl) refl (λ x. refl) (base_high l.tx_ring (omega (arith, inside))))
    (brings_both l (at b) (at c) (at (tx_entries l)) (write Tdlen (16 * n)) _
    (listening_write l sent b n Tdlen (16 * n) (16 * n) all refl refl
    (quiet (offset_of Tdlen) (omega arith) (λ x. omega arith)) refl
    (λ p. reg_of-offset_of p Tdlen (omega arith) refl) refl (λ x. refl) (ring_length n good.transmit.count.eights good.transmit.count.most))
    (brings_both l (at c) (at d) (at (tx_entries l)) (write Tdh 0) _
    (listening_write l sent c n Tdh 0 0 all refl refl (quiet (offset_of Tdh) (omega arith) (λ x. omega arith)) refl
    (λ p. reg_of-offset_of p Tdh (omega arith) refl) refl (λ x. refl) refl)
    (brings_both l (at d) (at e) (at (tx_entries l)) (write Tdt 0) _
    (listening_write l sent d n Tdt 0 0 all refl refl (quiet (offset_of Tdt) (omega arith) (λ x. omega arith)) refl
    (λ p. reg_of-offset_of p Tdt (omega arith) refl) refl (λ x. refl) refl)
    (listening_less l sent (Tipg, 0x0060_200A) e n _
    (listening_write l sent e n Tipg 0x0060_200A 0x0060_200A all refl refl
    (quiet (offset_of Tipg) (omega arith) (λ x. omega arith)) refl
    (λ p. reg_of-offset_of p Tipg (omega arith) refl) refl (λ x. refl) refl))))))

-- ---- sending begins

-- a driven state in which nothing is queued, and what was stored waits
pub record IsStarted (l : Layout) (sent : List (List ℕ)) (s : State) (stored : List (List ℕ)) : Type 0 where
  pub driven : IsDriven l s
  pub queued : queued l s ≡ []
  pub waits : waiting l s ≡ stored
  pub wire : s.wire ≡ sent

enabled_sending : (l : Layout) (sent : List (List ℕ)) (s : State) (stored : List (List ℕ)) → IsListening l sent
    (tx_entries l) l.tx_count s stored
    → IsStarted l sent (record s { registers = registers.put s.registers Tctl 0x4_010A }) stored
enabled_sending l sent s stored h =
    let n : ℕ = l.tx_count in
    let t : State = record s { registers = registers.put s.registers Tctl 0x4_010A } in
    let least = h.layout.good.transmit.count.least in
    let kept = hold_other s.registers Tctl 0x4_010A (tx_entries l) refl h.holds in
    let tail : tdt t ≡ 0 = kept.0 in
    let head : tdh t ≡ 0 = kept.1.0 in
    let none : (i : ℕ) → is_queued l t i ≡ false = λ i. (λ p. is_among n (head p) (tail p) i) ∙ among_none n 0 i in
    let inside = h.layout.placed.transmit.inside.buffers in
    let r : RxMoves l s t []
    = rx_same l s t h.receiving
    (same_ring l s t
    (put_other_side is_rx_side s.registers Tctl 0x4_010A
    (record { ctrl = λ e. omega arith; control = λ e. omega arith; ring = λ e. omega arith }))
    refl refl) refl in
    record {
      driven = record {
        but = record {
          layout = laid_same l s t refl refl h.layout;
          receiving = r.but;
          sending = record {
            tctl = put_same s.registers Tctl 0x4_010A;
            base = base_is t.registers Tdbah Tdbal l.tx_ring kept.1.1.1.0 kept.1.1.1.1.0;
            len = kept.1.1.0;
            head = omega (arith, head, least);
            tail = omega (arith, tail, least);
            untagged = r.but.untagged;
            addresses = λ i low. ap (little_number 8) (h.fresh i low)
                ∙ fresh_address (tx_buffer l i) (omega (arith, inside));
            packets = λ i low e. absurd (let not_so : true ≡ false = sym e ∙ none i in cc);
            gathered = h.gathered;
          };
        };
        marked = r.mark h.marked;
      };
      queued = (λ p. between n (head p) (tail p) (λ i. padded (tx_packet_at l t i)))
          ∙ between_none n 0 (λ i. padded (tx_packet_at l t i));
      waits = r.waiting ∙ append-nil (waiting l s) ∙ h.waits;
      wire = h.wire;
    }

pub sending_enabled : (l : Layout) (sent : List (List ℕ))
    → Brings l (IsListening l sent (tx_entries l) l.tx_count) (IsStarted l sent) (write Tctl 0x0004_010A)
sending_enabled l sent =
    brings_write l (IsListening l sent (tx_entries l) l.tx_count) (IsStarted l sent) Tctl 0x4_010A
    (listening_closed l sent (tx_entries l) l.tx_count (omega arith) refl refl)
    (λ s t stored h is.
    subst (λ x. IsStarted l sent x stored)
    (sym (written s t (offset_of Tctl) Tctl 0x4_010A (λ p. reg_of-offset_of p Tctl (omega arith) refl) refl (λ x. refl) is))
    (enabled_sending l sent s stored h))
