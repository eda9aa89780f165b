-- An event of others: what it leaves of a device, and in a state as a driver keeps it.
use Rattle.std.proofs.Common.{◌≡◌, ◌≢◌, ◌∙◌, ◌⊎◌, ◌||◌, ◌==◌, ℕ, ◌<◌, Bool, true, false, List, [], ◌++◌}
use Rattle.std.proofs.Common.{length, refl, sym, ap, subst, inl, inr, arith, Option, Some, None, Ok, Err}
use Rattle.std.proofs.Common.{if◌then◌else◌}
use Rattle.std.specs.FinMap as map
use Rattle.std.specs.Prelude.{bit_and, nat_lt, IfSome}
use Rattle.std.proofs.lemmas.List.{append_cancel_left}
use Rattle.em_mem.specs.Memory.{EndsIn, leaves, put}
use Rattle.em_mem.proofs.NeedsLaws.{lies_by_test}
use Rattle.em_mem.proofs.PutLaws.{length-put}
use Rattle.em_regs.specs.declared.reg.Reg.{Reg}
use Rattle.em_regs.specs.declared.reg.Reg.TheVariants.{Ctrl, Eerd}
use Rattle.em_regs.specs.declared.table.Kind.{Kind}
use Rattle.em_regs.specs.declared.table.Kind.TheVariants.{Stored, Control, EepromRead, Status, Interrupt, Counter}
use Rattle.em_regs.specs.declared.table.Kind.TheVariants.{EepromPins, PhyCommand, Uncounted}
use Rattle.em_regs.specs.RegFile as registers
use Rattle.em_regs.specs.Storage.{Registers}
use Rattle.em_regs.specs.declared.profile.Profile.{Profile}
use Rattle.em_regs.specs.Table.{IsReg, answers_at, has_reg, kept_by, mask_in, mask_of, offset_of, reg_at, reg_of, row_of}
use Rattle.em_regs.specs.Table as table
use Rattle.em_regs.proofs.TableLaws.{reg_in_lies}
use Rattle.em_latch.specs.Latches as latches
use Rattle.em_eeprom.specs.Eeprom.{word_at}
use Rattle.em_step.specs.Access.{after_eeprom_read, after_latch_write, after_link, after_store, after_write}
use Rattle.em_step.specs.Access.{after_phy_command, after_pins_write, after_write_by, differ, eerd_address, has}
use Rattle.em_step.specs.Event.{Event, reads, writes, pokes, arrives, links, receives, transmits}
use Rattle.em_step.specs.State.{State}
use Rattle.em_step.specs.Step.{at_none, at_register, step}
use Rattle.em_step.specs.declared.event.Answer.{Answer}
use Rattle.em_step.specs.declared.event.Answer.TheVariants.{Done}
use Rattle.em_step.specs.declared.refusal.Refusal.TheVariants.{NoRegister, Range, Length}
use Rattle.em_driver.specs.Driven.{IsDrivenBut, IsReceivingBut}
use Rattle.em_driver.specs.Order.{queued}
use Rattle.em_driver.specs.Others.{IsNoDriverMemory, IsNoDriverRegister, IsOthers}
use Rattle.em_turn.specs.Turn.{event_of, stored_in}
use Rattle.em_driver.specs.declared.layout.Layout.{Layout}
use Rattle.em_turn.specs.declared.turn.Turn.{Turn}
use Rattle.em_turn.specs.declared.turn.Turn.TheVariants.{Arrive, RxStep, TxStep}
use Rattle.em_driver.proofs.rings.ReceiveRing.{RxMoves, rx_same}
use Rattle.em_driver.proofs.rings.TransmitRing.{tx_same}
use Rattle.em_driver.proofs.rings.SideRegisters.{rx_side, tx_side, is_rx_side, is_tx_side, same_side, IsOther, SameSide}
use Rattle.em_driver.proofs.rings.SideRegisters.{word_other}
use Rattle.em_driver.proofs.rings.OneTurn.{Moves, laid_same, turn_moves}
use Rattle.em_driver.proofs.rings.OneTurn.{arrival_turn, receive_turn}
use Rattle.em_driver.proofs.rings.MemoryUnits.{Region, rx_ring, rx_buffers, tx_ring, tx_buffers, count_of, unit}
use Rattle.em_driver.proofs.rings.MemoryUnits.{unit_outside}
use Rattle.em_driver.proofs.order.Accessed.{ok_is, read_keeps}

-- the turns of a plan are events of others
pub turns_are_others : (l : Layout) (t : Turn) → IsOthers l (event_of t)
turns_are_others l (Arrive f) = tt
turns_are_others l RxStep = tt
turns_are_others l TxStep = tt

-- ---- what one leaves that is no turn

-- of a device with this layout, whether it is driven or not yet
pub record IsElsewhere (l : Layout) (s t : State) : Type 0 where
  -- the registers, but for one word at most, which is of none of the driver's
  pub registers :
      (t.registers ≡ s.registers)
      ⊎ ((o : ℕ) × (v : ℕ) × IsNoDriverRegister o × (t.registers ≡ map.insert s.registers o v))
  pub base : t.base ≡ s.base
  pub size : length t.memory ≡ length s.memory
  pub units : (k : Region) (i : ℕ) → i < count_of l k → unit l t.memory k i ≡ unit l s.memory k i
  pub fifo : t.fifo ≡ s.fifo
  pub gathered : t.gathered ≡ s.gathered
  pub wire : t.wire ≡ s.wire
  pub profile : t.profile ≡ s.profile

elsewhere_same : (l : Layout) (s t : State) → t.registers ≡ s.registers → t.base ≡ s.base → t.memory ≡ s.memory
    → t.fifo ≡ s.fifo → t.gathered ≡ s.gathered → t.wire ≡ s.wire → t.profile ≡ s.profile → IsElsewhere l s t
elsewhere_same l s t regs base memory fifo gathered wire profile = record {
  registers = inl regs;
  base = base;
  size = ap length memory;
  units = λ k i low. ap (λ m. unit l m k i) memory;
  fifo = fifo;
  gathered = gathered;
  wire = wire;
  profile = profile;
}

word_elsewhere : (l : Layout) (s : State) (o v : ℕ) → IsNoDriverRegister o
    → IsElsewhere l s (record s { registers = map.insert s.registers o v })
word_elsewhere l s o v out = record {
  registers = inr (o, v, out, refl);
  base = refl;
  size = refl;
  units = λ k i low. refl;
  fifo = refl;
  gathered = refl;
  wire = refl;
  profile = refl;
}

-- ---- a register

eerd_is_no_drivers : IsNoDriverRegister (offset_of Eerd)
eerd_is_no_drivers = record {
  ctrl = λ e. omega arith;
  vet = λ e. omega arith;
  rctl = λ e. omega arith;
  tctl = λ e. omega arith;
  rx_ring = λ from. omega arith;
  tx_ring = λ from. omega arith;
}

eerd_elsewhere : (l : Layout) (s : State) (v : ℕ) (start : Bool)
    → IsElsewhere l s (if start then after_eeprom_read s (eerd_address v) else after_store s Eerd v)
eerd_elsewhere l s v true =
    let a : ℕ = eerd_address v in
    word_elsewhere l s (offset_of Eerd) (registers.eerd_value a (word_at s.eeprom a)) eerd_is_no_drivers
eerd_elsewhere l s v false = word_elsewhere l s (offset_of Eerd) (bit_and v (mask_of Eerd)) eerd_is_no_drivers

-- only CTRL can reset
no_control : (reg : Reg) → offset_of reg ≢ 0 → (row_of reg).kind ≢ Control
no_control Ctrl out = absurd (out refl)
no_control reg out = λ same. cc

write_by : (l : Layout) (s : State) (reg : Reg) (v : ℕ) (kind : Kind) → kind ≢ Control
    → IsNoDriverRegister (offset_of reg) → IsElsewhere l s (after_write_by kind s reg v)
write_by l s reg v Stored other out = word_elsewhere l s (offset_of reg) (bit_and v (mask_in s.profile reg)) out
write_by l s reg v Control other out = absurd (other refl)
write_by l s reg v EepromRead other out = eerd_elsewhere l s v (has v 0x1)
write_by l s reg v Status other out = elsewhere_same l s s refl refl refl refl refl refl refl
write_by l s reg v Interrupt other out =
    elsewhere_same l s (after_latch_write s reg v) refl refl refl refl refl refl refl
write_by l s reg v Counter other out = elsewhere_same l s (after_latch_write s reg v) refl refl refl refl refl refl refl
write_by l s reg v EepromPins other out = elsewhere_same l s (after_pins_write s v) refl refl refl refl refl refl refl
write_by l s reg v PhyCommand other out = elsewhere_same l s (after_phy_command s v) refl refl refl refl refl refl refl
write_by l s reg v Uncounted other out = elsewhere_same l s s refl refl refl refl refl refl refl

write_elsewhere : (l : Layout) (s : State) (reg : Reg) (v : ℕ) → IsNoDriverRegister (offset_of reg)
    → IsElsewhere l s (after_write s reg v)
write_elsewhere l s reg v out = write_by l s reg v (row_of reg).kind (no_control reg out.ctrl) out

lies_at : (o : ℕ) → IfSome (reg_at o) (λ reg. IsReg reg × (offset_of reg ≡ o))
unfolding reg_at
lies_at o = reg_in_lies table.registers o

lies_if : (b : Bool) (o : ℕ) (reg : Reg) → IsReg reg × (offset_of reg ≡ o)
    → IfSome (if b then Some reg else None) (λ r. IsReg r × (offset_of r ≡ o))
lies_if true o reg lies = lies
lies_if false o reg lies = tt

lies_kept : (p : Profile) (o : ℕ) (found : Option Reg) → IfSome found (λ reg. IsReg reg × (offset_of reg ≡ o))
    → IfSome (kept_by p found) (λ reg. IsReg reg × (offset_of reg ≡ o))
lies_kept p o None lies = tt
lies_kept p o (Some reg) lies = lies_if (has_reg p reg) o reg lies

lies : (p : Profile) (o : ℕ) → IfSome (reg_of p o) (λ reg. IsReg reg × (offset_of reg ≡ o))
lies p o = lies_kept p o (reg_at o) (lies_at o)

-- where no register lies
lost_by : (l : Layout) (s : State) (answers : Bool) (r : Answer × State)
    → (if answers then Ok (Done, s) else Err NoRegister) ≡ Ok r → IsElsewhere l s r.1
lost_by l s true r is =
    subst (λ x. IsElsewhere l s x.1) (ok_is (Done, s) r is) (elsewhere_same l s s refl refl refl refl refl refl refl)
lost_by l s false r is = cc

written_by : (l : Layout) (s : State) (o v : ℕ) (there : Option Reg) (r : Answer × State)
    → IfSome there (λ reg. IsReg reg × (offset_of reg ≡ o)) → IsNoDriverRegister o
    → at_register there (λ reg. (Done, after_write s reg v)) (at_none s o Done) ≡ Ok r → IsElsewhere l s r.1
written_by l s o v None r lies out is = lost_by l s (answers_at s.profile o) r is
written_by l s o v (Some reg) r lies out is =
    subst (λ x. IsElsewhere l s x.1) (ok_is (Done, after_write s reg v) r is)
    (write_elsewhere l s reg v (subst IsNoDriverRegister (sym lies.1) out))

-- ---- memory, and the link

memory_elsewhere : (l : Layout) (s : State) (a : ℕ) (d : List ℕ) → IsNoDriverMemory l a (length d)
    → EndsIn s.memory a (length d) → IsElsewhere l s (record s { memory = put s.memory a d })
memory_elsewhere l s a d out held = record {
  registers = inl refl;
  base = refl;
  size = length-put s.memory a d held;
  units = λ k i low. unit_outside l s.memory a d held out k i low;
  fifo = refl;
  gathered = refl;
  wire = refl;
  profile = refl;
}

poked_by : (l : Layout) (s : State) (a : ℕ) (d : List ℕ) (past short : Bool) (r : Answer × State)
    → IsNoDriverMemory l a (length d) → leaves s.base s.memory a (length d) ≡ past
    → (if past then Err Range else if short then Err Length
    else Ok (Done, record s { memory = put s.memory a d })) ≡ Ok r
    → IsElsewhere l s r.1
poked_by l s a d true short r out is e = cc
poked_by l s a d false true r out is e = cc
poked_by l s a d false false r out is e =
    subst (λ x. IsElsewhere l s x.1) (ok_is _ r e) (memory_elsewhere l s a d out (lies_by_test s.base s.memory a (length d) is).to)

link_by : (l : Layout) (s : State) (up b : Bool)
    → IsElsewhere l s (if b then record s { link = up; latches = latches.after_raise s.latches 0x4 } else s)
link_by l s up true = elsewhere_same l s _ refl refl refl refl refl refl refl
link_by l s up false = elsewhere_same l s s refl refl refl refl refl refl refl

-- ---- any event

-- it is no turn
abbrev pub IsNoTurn : Event → Type 0
IsNoTurn (arrives f) = ⊥
IsNoTurn receives = ⊥
IsNoTurn transmits = ⊥
IsNoTurn e = Unit {0}

pub others_elsewhere : (l : Layout) (s : State) (e : Event) (r : Answer × State) → IsNoTurn e → IsOthers l e
    → step s e ≡ Ok r → IsElsewhere l s r.1
others_elsewhere l s (reads o) r plain out is =
    let k = read_keeps s r.1 o r.0 is in
    elsewhere_same l s r.1 k.registers k.base k.memory k.fifo k.gathered k.wire k.profile
others_elsewhere l s (writes o v) r plain out is = written_by l s o v (reg_of s.profile o) r (lies s.profile o) out is
others_elsewhere l s (pokes a d) r plain out is =
    poked_by l s a d (leaves s.base s.memory a (length d)) (length d == 0 || nat_lt 16_384 (length d)) r out
    refl is
others_elsewhere l s (links up) r plain out is =
    subst (λ x. IsElsewhere l s x.1) (ok_is (Done, after_link s up) r is) (link_by l s up (differ up s.link))
others_elsewhere l s (arrives f) r plain out is = absurd plain
others_elsewhere l s receives r plain out is = absurd plain
others_elsewhere l s transmits r plain out is = absurd plain

-- ---- in a state as a driver keeps it

not_receiving : (o : ℕ) → IsNoDriverRegister o → IsOther rx_side o
not_receiving o h = record { ctrl = h.ctrl; control = h.rctl; ring = h.rx_ring }

not_sending : (o : ℕ) → IsNoDriverRegister o → IsOther tx_side o
not_sending o h = record { ctrl = h.ctrl; control = h.tctl; ring = h.tx_ring }

-- neither side goes by such a word
pub same_sides : (m n : Registers)
    → (n ≡ m) ⊎ ((o : ℕ) × (v : ℕ) × IsNoDriverRegister o × (n ≡ map.insert m o v))
    → SameSide rx_side m n × SameSide tx_side m n
same_sides m n (inl same) = (same_side rx_side m n same, same_side tx_side m n same)
same_sides m n (inr (o, v, out, is)) = (
  subst (SameSide rx_side m) (sym is) (word_other is_rx_side m o v (not_receiving o out)),
  subst (SameSide tx_side m) (sym is) (word_other is_tx_side m o v (not_sending o out)),
)

pub rx_elsewhere : (l : Layout) (s t : State) → IsReceivingBut l s → IsElsewhere l s t → RxMoves l s t []
rx_elsewhere l s t h k = rx_same l s t h (record {
  registers = (same_sides s.registers t.registers k.registers).0;
  descriptors = λ i low. k.units rx_ring i low;
  buffers = λ i low. k.units rx_buffers i low;
  profile = k.profile;
}) k.fifo

elsewhere_moves : (l : Layout) (s t : State) → IsDrivenBut l s → IsElsewhere l s t → Moves l s t []
elsewhere_moves l s t h k = record {
  layout = laid_same l s t k.base k.size h.layout;
  receiving = rx_elsewhere l s t h.receiving k;
  sending = tx_same l s t h.sending (record {
    registers = (same_sides s.registers t.registers k.registers).1;
    descriptors = λ i low. k.units tx_ring i low;
    buffers = λ i low. k.units tx_buffers i low;
    gathered = k.gathered;
    wire = k.wire;
  });
}

-- what an event leaves, and the packets that it added to what waits
pub others_move : (l : Layout) (s : State) (e : Event) (r : Answer × State) → IsDrivenBut l s → IsOthers l e
    → step s e ≡ Ok r → Moves l s r.1 (stored_in e r.0)
others_move l s (reads o) r h out is = elsewhere_moves l s r.1 h (others_elsewhere l s (reads o) r tt out is)
others_move l s (writes o v) r h out is = elsewhere_moves l s r.1 h (others_elsewhere l s (writes o v) r tt out is)
others_move l s (pokes a d) r h out is = elsewhere_moves l s r.1 h (others_elsewhere l s (pokes a d) r tt out is)
others_move l s (links up) r h out is = elsewhere_moves l s r.1 h (others_elsewhere l s (links up) r tt out is)
others_move l s (arrives f) r h out is = turn_moves l s (Arrive f) r h is
others_move l s receives r h out is = turn_moves l s RxStep r h is
others_move l s transmits r h out is = turn_moves l s TxStep r h is

-- only a transmit step puts a frame onto the wire
pub wire_rests : (l : Layout) (s : State) (e : Event) (r : Answer × State) → IsDrivenBut l s → IsOthers l e
    → step s e ≡ Ok r → e ≢ transmits → r.1.wire ≡ s.wire
wire_rests l s (reads o) r h out is other = (others_elsewhere l s (reads o) r tt out is).wire
wire_rests l s (writes o v) r h out is other = (others_elsewhere l s (writes o v) r tt out is).wire
wire_rests l s (pokes a d) r h out is other = (others_elsewhere l s (pokes a d) r tt out is).wire
wire_rests l s (links up) r h out is other = (others_elsewhere l s (links up) r tt out is).wire
wire_rests l s (arrives f) r h out is other = (arrival_turn l s f r h.layout h.receiving is).sending.wire
wire_rests l s receives r h out is other = (receive_turn l s r h.layout h.receiving is).sending.wire
wire_rests l s transmits r h out is other = absurd (other refl)

-- and so takes a packet from what is queued
pub queue_rests : (l : Layout) (s : State) (e : Event) (r : Answer × State) → IsDrivenBut l s → IsOthers l e
    → step s e ≡ Ok r → e ≢ transmits → queued l r.1 ≡ queued l s
queue_rests l s e r h out is other =
    append_cancel_left s.wire (queued l r.1) (queued l s)
    (ap (λ x. x ++ queued l r.1) (sym (wire_rests l s e r h out is other))
    ∙ (others_move l s e r h out is).sending.wire)
