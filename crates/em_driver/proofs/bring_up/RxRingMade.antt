-- The stages of a start while the device is off: it was reset, and its receive ring is made.
use Rattle.std.proofs.Common.{◌≡◌, ◌≢◌, ◌∙◌, ℕ, ◌+◌, ◌-◌, ◌*◌, ◌/◌, ◌%◌, ◌<◌, ◌≤◌, ◌==◌, Bool, true, false}
use Rattle.std.proofs.Common.{List, [], ◌∷◌, ◌++◌, length, refl, sym, ap, subst, inl, inr, arith, append-nil}
use Rattle.std.proofs.Common.{Some, if◌then◌else◌}
use Rattle.std.specs.FinMap as map
use Rattle.std.specs.Prelude.{bit_and, slice_index}
use Rattle.std.proofs.lemmas.Bool.{cases_eq}
use Rattle.em_mem.specs.Memory.{put}
use Rattle.em_regs.specs.declared.reg.Reg.{Reg}
use Rattle.em_regs.specs.declared.reg.Reg.TheVariants.{Ctrl, Eerd, Imc, Rctl, Tctl, Mta, Ral, Rah}
use Rattle.em_regs.specs.declared.reg.Reg.TheVariants.{Rdbal, Rdbah, Rdlen, Rdh, Rdt}
use Rattle.em_regs.specs.RegFile as registers
use Rattle.em_regs.specs.Setup.{value_of}
use Rattle.em_regs.specs.declared.profile.Profile.{Profile}
use Rattle.em_regs.specs.Table.{mask_of, offset_of, reg_of}
use Rattle.em_regs.proofs.Entries.{at-insert_other}
use Rattle.em_regs.proofs.ProfileLaws.{reg_of-offset_of}
use Rattle.em_latch.specs.Latches as latches
use Rattle.em_latch.specs.Latches.{is_latched}
use Rattle.em_filter.specs.Bits.{vme}
use Rattle.em_step.specs.Access.{after_eeprom_read, after_store, after_write, eerd_address, has}
use Rattle.em_step.specs.State.{State}
use Rattle.em_step.specs.declared.event.Answer.TheVariants.{Value}
use Rattle.em_step.proofs.SetupLaws.{put_same, put_other}
use Rattle.em_driver.specs.Course.{write}
use Rattle.em_driver.specs.Driven.{IsGoodFor}
use Rattle.em_driver.specs.Layout.{IsGoodLayout, IsPlaced}
use Rattle.em_driver.specs.DeviceOff.{IsOff, Rests}
use Rattle.em_driver.specs.Receive.{rx_buffer, rx_descriptor}
use Rattle.em_driver.specs.Start.{Part, memory, fresh_descriptor, set_link_up, eeprom, receive_address}
use Rattle.em_driver.specs.Start.{multicast_table, descriptors}
use Rattle.em_turn.specs.Turn.{stored_by}
use Rattle.em_driver.specs.declared.layout.Layout.{Layout}
use Rattle.em_driver.proofs.order.HandedOver.{put_whole}
use Rattle.em_driver.proofs.bring_up.HeldRegisters.{Entries, Hold, are_others, hold_other, base_low, base_high}
use Rattle.em_driver.proofs.bring_up.HeldRegisters.{ring_length, index, lie_in, hold_elsewhere}
use Rattle.em_driver.proofs.bring_up.DeviceOff.{off_turn}
use Rattle.em_driver.proofs.rings.ReceiveRing.{writes as writes_unit}
use Rattle.em_driver.proofs.order.EventsOfOthers.{IsElsewhere, same_sides}
use Rattle.em_driver.proofs.order.Stages.{IsClosed, IsClosedElsewhere, closed_by, Brings, BringsWith, brings_both}
use Rattle.em_driver.proofs.order.Stages.{brings_write, brings_memory, brings_all, brings_eeprom}
use Rattle.em_driver.proofs.rings.MemoryUnits.{good_same, rx_ring, unit, unit_at}
use Rattle.em_driver.proofs.order.Accessed.{poked, read_keeps, written, written_so}

-- ---- a device that is off

-- an offset of no register that turns it on, or lets it take tags out of frames
pub record IsNoSwitch (o : ℕ) : Type 0 where
  pub ctrl : o ≢ 0
  pub rctl : o ≢ 0x100
  pub tctl : o ≢ 0x400

off_rests : (s t : State) → IsOff s → Rests s t → IsOff t
off_rests s t h k = record {
  rctl = ap (λ m. value_of m Rctl) k.registers ∙ h.rctl;
  tctl = ap (λ m. value_of m Tctl) k.registers ∙ h.tctl;
  untagged = ap vme k.registers ∙ h.untagged;
  profile = k.profile ∙ h.profile;
  fifo = k.fifo ∙ h.fifo;
  gathered = k.gathered ∙ h.gathered;
}

off_elsewhere : (l : Layout) (s t : State) → IsOff s → IsElsewhere l s t → IsOff t
off_elsewhere l s t h k =
    let both = same_sides s.registers t.registers k.registers in
    record {
      rctl = both.0.setup.control ∙ h.rctl;
      tctl = both.1.setup.control ∙ h.tctl;
      untagged = both.0.setup.vme ∙ h.untagged;
      profile = k.profile ∙ h.profile;
      fifo = k.fifo ∙ h.fifo;
      gathered = k.gathered ∙ h.gathered;
    }

off_insert : (s : State) (o x : ℕ) → IsNoSwitch o → IsOff s
    → IsOff (record s { registers = map.insert s.registers o x })
off_insert s o x other h = record {
  rctl = at-insert_other s.registers o x (offset_of Rctl) (λ e. other.rctl (sym e)) ∙ h.rctl;
  tctl = at-insert_other s.registers o x (offset_of Tctl) (λ e. other.tctl (sym e)) ∙ h.tctl;
  untagged = ap (λ v. bit_and v 0x4000_0000 == 0x4000_0000)
      (at-insert_other s.registers o x (offset_of Ctrl) (λ e. other.ctrl (sym e))) ∙ h.untagged;
  profile = h.profile;
  fifo = h.fifo;
  gathered = h.gathered;
}

-- ---- the stages

-- The device is off, these registers hold these numbers, and the first k receive descriptors are made. No frame was
-- stored since the reset, and none sent.
pub record IsMaking (l : Layout) (sent : List (List ℕ)) (entries : Entries) (k : ℕ) (s : State)
    (stored : List (List ℕ)) : Type 0
  where
    pub off : IsOff s
    pub good : IsGoodFor s l
    pub holds : Hold s.registers entries
    pub fresh : (i : ℕ) → i < k → unit l s.memory rx_ring i ≡ fresh_descriptor (rx_buffer l i)
    pub none : stored ≡ []
    pub wire : s.wire ≡ sent

making_rests : (l : Layout) (sent : List (List ℕ)) (entries : Entries) (k : ℕ) (s t : State)
    (stored added : List (List ℕ))
    → IsMaking l sent entries k s stored → Rests s t → added ≡ [] → IsMaking l sent entries k t (stored ++ added)
making_rests l sent entries k s t stored added h r none = record {
  off = off_rests s t h.off r;
  good = good_same l r.base (ap length r.memory) h.good;
  holds = subst (λ m. Hold m entries) (sym r.registers) h.holds;
  fresh = λ i low. ap (λ m. unit l m rx_ring i) r.memory ∙ h.fresh i low;
  none = ap (λ x. stored ++ x) none ∙ append-nil stored ∙ h.none;
  wire = r.wire ∙ h.wire;
}

making_same : (l : Layout) (sent : List (List ℕ)) (entries : Entries) (k : ℕ) (s t : State) (stored : List (List ℕ))
    → IsMaking l sent entries k s stored → Rests s t → IsMaking l sent entries k t stored
making_same l sent entries k s t stored h r =
    subst (IsMaking l sent entries k t) (append-nil stored) (making_rests l sent entries k s t stored [] h r refl)

making_elsewhere : (l : Layout) (sent : List (List ℕ)) (entries : Entries) (k : ℕ) → k ≤ l.rx_count
    → lie_in 0x2800 0x2818 entries ≡ true → IsClosedElsewhere l (IsMaking l sent entries k)
making_elsewhere l sent entries k few own s t stored h e = record {
  off = off_elsewhere l s t h.off e;
  good = good_same l e.base e.size h.good;
  holds = hold_elsewhere s.registers t.registers 0x2800 0x2818 entries own (λ o out. out.rx_ring) e.registers h.holds;
  fresh = λ i low. e.units rx_ring i (omega arith) ∙ h.fresh i low;
  none = h.none;
  wire = e.wire ∙ h.wire;
}

-- of the registers that are held none lies outside the ring's
pub making_closed : (l : Layout) (sent : List (List ℕ)) (entries : Entries) (k : ℕ) → k ≤ l.rx_count
    → lie_in 0x2800 0x2818 entries ≡ true → IsClosed l (IsMaking l sent entries k)
making_closed l sent entries k few own =
    closed_by l (IsMaking l sent entries k)
    (λ s stored t r h is.
    let o = off_turn s t r h.off is in making_rests l sent entries k s r.1 stored (stored_by t r.0) h o.0 o.1)
    (making_elsewhere l sent entries k few own)

-- ---- registers

-- a write of another register leaves its number there
making_put : (l : Layout) (sent : List (List ℕ)) (entries : Entries) (k : ℕ) (s : State) (stored : List (List ℕ))
    (reg : Reg) (v u : ℕ)
    → IsNoSwitch (offset_of reg) → are_others (offset_of reg) entries ≡ true → bit_and v (mask_of reg) ≡ u
    → IsMaking l sent entries k s stored
    → IsMaking l sent ((reg, u) ∷ entries) k (record s { registers = registers.put s.registers reg v }) stored
making_put l sent entries k s stored reg v u other others kept h = record {
  off = off_insert s (offset_of reg) (bit_and v (mask_of reg)) other h.off;
  good = h.good;
  holds = (put_same s.registers reg v ∙ kept, hold_other s.registers reg v entries others h.holds);
  fresh = h.fresh;
  none = h.none;
  wire = h.wire;
}

making_write : (l : Layout) (sent : List (List ℕ)) (entries : Entries) (k : ℕ) (reg : Reg) (v u : ℕ) → k ≤ l.rx_count
    → lie_in 0x2800 0x2818 entries ≡ true → IsNoSwitch (offset_of reg)
    → are_others (offset_of reg) entries ≡ true → ((p : Profile) → reg_of p (offset_of reg) ≡ Some reg) → is_latched reg ≡ false
    → ((x : State) → after_write x reg v
    ≡ (if is_latched reg then x else record x { registers = registers.put x.registers reg v }))
    → bit_and v (mask_of reg) ≡ u
    → Brings l (IsMaking l sent entries k) (IsMaking l sent ((reg, u) ∷ entries) k) (write reg v)
making_write l sent entries k reg v u few own other others there latched by kept =
    brings_write l (IsMaking l sent entries k) (IsMaking l sent ((reg, u) ∷ entries) k) reg v
    (making_closed l sent entries k few own)
    (λ s t stored h is.
    subst (λ x. IsMaking l sent ((reg, u) ∷ entries) k x stored)
    (sym (written s t (offset_of reg) reg v there latched by is))
    (making_put l sent entries k s stored reg v u other others kept h))

-- what a register holds is not told on
making_less : (l : Layout) (sent : List (List ℕ)) (entry : Reg × ℕ) (k : ℕ) (part : Part)
    → Brings l (IsMaking l sent [] k) (IsMaking l sent (entry ∷ []) k) part → Brings l (IsMaking l sent [] k)
    (IsMaking l sent [] k) part
making_less l sent entry k part brings before w v more n h f =
    let r = brings before w v more n h f in
    record {
      world = r.world;
      events = r.events;
      at = record {
        stored = r.at.stored;
        is = r.at.is;
        holds = record {
          off = r.at.holds.off;
          good = r.at.holds.good;
          holds = tt;
          fresh = r.at.holds.fresh;
          none = r.at.holds.none;
          wire = r.at.holds.wire;
        };
        spared = r.at.spared;
      };
      follows = r.follows;
    }

-- ---- the link

masked : (l : Layout) (sent : List (List ℕ)) → Brings l (IsMaking l sent [] 0) (IsMaking l sent [] 0)
    (write Imc 0xFFFF_FFFF)
masked l sent =
    brings_write l (IsMaking l sent [] 0) (IsMaking l sent [] 0) Imc 0xFFFF_FFFF
    (making_closed l sent [] 0 (omega arith) refl)
    (λ s t stored h is.
    subst (λ x. IsMaking l sent [] 0 x stored)
    (sym (written_so s t (offset_of Imc) Imc 0xFFFF_FFFF (λ p. reg_of-offset_of p Imc (omega arith) refl) is))
    (making_same l sent [] 0 s (record s { latches = latches.after_write s.latches Imc 0xFFFF_FFFF }) stored h
    (record {
      registers = refl;
      base = refl;
      memory = refl;
      fifo = refl;
      gathered = refl;
      wire = refl;
      profile = refl;
    })))

link_put : (l : Layout) (sent : List (List ℕ)) (s : State) (stored : List (List ℕ)) → IsMaking l sent [] 0 s stored
    → IsMaking l sent [] 0 (record s { registers = registers.put s.registers Ctrl 0x41 }) stored
link_put l sent s stored h = record {
  off = record {
    rctl = put_other s.registers Ctrl Rctl 0x41 (λ e. omega arith) ∙ h.off.rctl;
    tctl = put_other s.registers Ctrl Tctl 0x41 (λ e. omega arith) ∙ h.off.tctl;
    untagged = ap (λ v. bit_and v 0x4000_0000 == 0x4000_0000) (put_same s.registers Ctrl 0x41);
    profile = h.off.profile;
    fifo = h.off.fifo;
    gathered = h.off.gathered;
  };
  good = h.good;
  holds = tt;
  fresh = h.fresh;
  none = h.none;
  wire = h.wire;
}

linked : (l : Layout) (sent : List (List ℕ)) → Brings l (IsMaking l sent [] 0) (IsMaking l sent [] 0)
    (write Ctrl 0x0000_0041)
linked l sent =
    brings_write l (IsMaking l sent [] 0) (IsMaking l sent [] 0) Ctrl 0x41
    (making_closed l sent [] 0 (omega arith) refl)
    (λ s t stored h is.
    subst (λ x. IsMaking l sent [] 0 x stored)
    (sym (written s t (offset_of Ctrl) Ctrl 0x41 (λ p. reg_of-offset_of p Ctrl (omega arith) refl) refl (λ x. refl) is))
    (link_put l sent s stored h))

pub link_made : (l : Layout) (sent : List (List ℕ)) → Brings l (IsMaking l sent [] 0) (IsMaking l sent [] 0) set_link_up
unfolding set_link_up
link_made l sent =
    brings_both l (IsMaking l sent [] 0) (IsMaking l sent [] 0) (IsMaking l sent [] 0)
    (λ more. write Imc 0xFFFF_FFFF more)
    (λ more. write Ctrl 0x0000_0041 more) (masked l sent) (linked l sent)

-- ---- the EEPROM, and addresses to receive by

no_switch : (o : ℕ) → 0x0000 < o → o < 0x0100 → IsNoSwitch o
no_switch o low high = record { ctrl = λ e. omega arith; rctl = λ e. omega arith; tctl = λ e. omega arith }

eerd_by : (l : Layout) (sent : List (List ℕ)) (s : State) (stored : List (List ℕ)) (b : Bool) (a v : ℕ)
    → IsMaking l sent [] 0 s stored
    → IsMaking l sent [] 0 (if b then after_eeprom_read s a else after_store s Eerd v) stored
eerd_by l sent s stored true a v h = record {
  off = off_insert s (offset_of Eerd) _ (no_switch (offset_of Eerd) (omega arith) (omega arith)) h.off;
  good = h.good;
  holds = tt;
  fresh = h.fresh;
  none = h.none;
  wire = h.wire;
}
eerd_by l sent s stored false a v h = record {
  off = off_insert s (offset_of Eerd) _ (no_switch (offset_of Eerd) (omega arith) (omega arith)) h.off;
  good = h.good;
  holds = tt;
  fresh = h.fresh;
  none = h.none;
  wire = h.wire;
}

pub eeprom_made : (l : Layout) (sent : List (List ℕ))
    → BringsWith l (IsMaking l sent [] 0) (IsMaking l sent [] 0) eeprom
eeprom_made l sent =
    brings_eeprom l (IsMaking l sent [] 0) (making_closed l sent [] 0 (omega arith) refl)
    (λ v s t stored h is.
    subst (λ x. IsMaking l sent [] 0 x stored)
    (sym (written_so s t (offset_of Eerd) Eerd v (λ p. reg_of-offset_of p Eerd (omega arith) refl) is))
    (eerd_by l sent s stored (has v 0x1) (eerd_address v) v h))
    (λ v s t stored h is.
    let k = read_keeps s t (offset_of Eerd) (Value v) is in
    making_same l sent [] 0 s t stored h
    (record {
      registers = k.registers;
      base = k.base;
      memory = k.memory;
      fifo = k.fifo;
      gathered = k.gathered;
      wire = k.wire;
      profile = k.profile;
    }))

high_switch : (o : ℕ) → 0x0400 < o → IsNoSwitch o
high_switch o low = record { ctrl = λ e. omega arith; rctl = λ e. omega arith; tctl = λ e. omega arith }

pub address_made : (l : Layout) (sent : List (List ℕ)) (words : List ℕ)
    → Brings l (IsMaking l sent [] 0) (IsMaking l sent [] 0) (receive_address words)
unfolding receive_address
address_made l sent words =
    let low : ℕ = slice_index words 0 + 0x1_0000 * slice_index words 1 in
    let high : ℕ = slice_index words 2 + 0x8000_0000 in
    brings_both l (IsMaking l sent [] 0) (IsMaking l sent [] 0) (IsMaking l sent [] 0) (λ more. write (Ral 0) low more)
    (λ more. write (Rah 0) high more)
    (making_less l sent (Ral 0, bit_and low 0xFFFF_FFFF) 0 _
    (making_write l sent [] 0 (Ral 0) low _ (omega arith) refl (high_switch (offset_of (Ral 0)) (omega arith)) refl
    (λ p. reg_of-offset_of p (Ral 0) (omega arith) refl) refl (λ x. refl) refl))
    (making_less l sent (Rah 0, bit_and high 0x8003_FFFF) 0 _
    (making_write l sent [] 0 (Rah 0) high _ (omega arith) refl (high_switch (offset_of (Rah 0)) (omega arith)) refl
    (λ p. reg_of-offset_of p (Rah 0) (omega arith) refl) refl (λ x. refl) refl))

pub table_made : (l : Layout) (sent : List (List ℕ)) → Brings l (IsMaking l sent [] 0)
    (IsMaking l sent [] 0) multicast_table
unfolding multicast_table
table_made l sent =
    brings_all l (λ i. IsMaking l sent [] 0) (λ i. write (Mta i) 0) 128
    (λ i low.
    making_less l sent (Mta i, 0) 0 _
    (making_write l sent [] 0 (Mta i) 0 0 (omega arith) refl (high_switch (offset_of (Mta i)) (omega arith)) refl
    (λ p. reg_of-offset_of p (Mta i) (omega arith) refl) refl (λ x. refl) refl))

-- ---- the receive ring

-- one descriptor more
descriptor_made : (l : Layout) (sent : List (List ℕ)) (k : ℕ) → k < l.rx_count
    → Brings l (IsMaking l sent [] k) (IsMaking l sent [] (k + 1))
    (memory (l.rx_ring + 16 * k) (fresh_descriptor (l.rx_buffers + 2048 * k)))
descriptor_made l sent k low =
    let d : List ℕ = fresh_descriptor (rx_buffer l k) in
    brings_memory l (IsMaking l sent [] k) (IsMaking l sent [] (k + 1)) (l.rx_ring + 16 * k) d
    (making_closed l sent [] k (omega arith) refl)
    (λ s t stored h is.
    let m : List ℕ = put s.memory (rx_descriptor l k) d in
    let long : length d ≡ 16 = refl in
    let zero : rx_descriptor l k ≡ unit_at l rx_ring k + 0 = omega arith in
    let w = writes_unit l s.memory m rx_ring k 0 d h.good low (omega (arith, long))
    (ap (λ a. put s.memory a d) zero) in
    let here : unit l m rx_ring k ≡ d = w.here ∙ put_whole (unit l s.memory rx_ring k) d (w.long ∙ sym long) in
    let made : IsMaking l sent [] (k + 1) (record s { memory = m }) stored = record {
      off = record {
        rctl = h.off.rctl;
        tctl = h.off.tctl;
        untagged = h.off.untagged;
        profile = h.off.profile;
        fifo = h.off.fifo;
        gathered = h.off.gathered;
      };
      good = good_same l refl w.size h.good;
      holds = tt;
      fresh = λ i below. elim (cases_eq i k) [
        | inl e ↦ subst (λ j. unit l m rx_ring j ≡ fresh_descriptor (rx_buffer l j)) (sym e) here
        | inr e ↦ w.other rx_ring i (omega arith) e ∙ h.fresh i (omega arith)
      ];
      none = h.none;
      wire = h.wire;
    } in
    subst (λ x. IsMaking l sent [] (k + 1) x stored) (sym (poked s t (rx_descriptor l k) d is)) made)

pub descriptors_made : (l : Layout) (sent : List (List ℕ))
    → Brings l (IsMaking l sent [] 0) (IsMaking l sent [] l.rx_count) (descriptors l.rx_ring l.rx_count l.rx_buffers)
unfolding descriptors
descriptors_made l sent =
    brings_all l (IsMaking l sent []) (λ i. memory (l.rx_ring + 16 * i) (fresh_descriptor (l.rx_buffers + 2048 * i)))
    l.rx_count (descriptor_made l sent)

-- what the ring's registers hold in the end
abbrev pub rx_entries : Layout → Entries
rx_entries l =
    (Rdt, l.rx_count - 1) ∷ (Rdh, 0) ∷ (Rdlen, 16 * l.rx_count) ∷ (Rdbah, l.rx_ring / 0x1_0000_0000)
    ∷ (Rdbal, l.rx_ring % 0x1_0000_0000) ∷ []

abbrev pub rx_registers : Layout → Part
rx_registers l more =
    write Rdbal (l.rx_ring % 0x1_0000_0000)
    (write Rdbah (l.rx_ring / 0x1_0000_0000)
    (write Rdlen (16 * l.rx_count)
    (write Rdh 0
    (write Rdt (l.rx_count - 1) more))))

pub registers_made : (l : Layout) (sent : List (List ℕ)) (base end : ℕ) → IsGoodLayout base end l → IsPlaced l
    → Brings l (IsMaking l sent [] l.rx_count) (IsMaking l sent (rx_entries l) l.rx_count) (rx_registers l)
registers_made l sent base end good placed =
    let n : ℕ = l.rx_count in
    let low : ℕ = l.rx_ring % 0x1_0000_0000 in
    let high : ℕ = l.rx_ring / 0x1_0000_0000 in
    let at = λ (entries : Entries). IsMaking l sent entries n in
    let a : Entries = (Rdbal, low) ∷ [] in
    let b : Entries = (Rdbah, high) ∷ a in
    let c : Entries = (Rdlen, 16 * n) ∷ b in
    let d : Entries = (Rdh, 0) ∷ c in
    let inside = placed.receive.inside.ring in
    let all : n ≤ l.rx_count = omega arith in
    brings_both l (at []) (at a) (at (rx_entries l)) (write Rdbal low) _
    (making_write l sent [] n Rdbal low low all refl (high_switch (offset_of Rdbal) (omega arith)) refl
    (λ p. reg_of-offset_of p Rdbal (omega arith) refl) refl (λ x. refl) (base_low l.rx_ring good.receive.aligned))
    (brings_both l (at a) (at b) (at (rx_entries l)) (write Rdbah high) _
    (making_write l sent a n Rdbah high high all refl (high_switch (offset_of Rdbah) (omega arith)) refl
    (λ p. reg_of-offset_of p Rdbah (omega arith) refl) refl (λ x. refl) (base_high l.rx_ring (omega (arith, inside))))
    (brings_both l (at b) (at c) (at (rx_entries l)) (write Rdlen (16 * n)) _
    (making_write l sent b n Rdlen (16 * n) (16 * n) all refl (high_switch (offset_of Rdlen) (omega arith))
    refl
    (λ p. reg_of-offset_of p Rdlen (omega arith) refl) refl (λ x. refl) (ring_length n good.receive.count.eights good.receive.count.most))
    (brings_both l (at c) (at d) (at (rx_entries l)) (write Rdh 0) _
    (making_write l sent c n Rdh 0 0 all refl (high_switch (offset_of Rdh) (omega arith))
    refl
    (λ p. reg_of-offset_of p Rdh (omega arith) refl) refl (λ x. refl) refl)
    (making_write l sent d n Rdt (n - 1) (n - 1) all refl (high_switch (offset_of Rdt) (omega arith))
    refl
    (λ p. reg_of-offset_of p Rdt (omega arith) refl) refl (λ x. refl) (index (n - 1) (omega (arith, good.receive.count.most)))))))
