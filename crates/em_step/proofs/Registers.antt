-- What an access of a register does, by the kind of its row.
use Rattle.std.proofs.Common.{◌∙◌, ◌≡◌, ◌≢◌, ◌⊎◌, ℕ, false, IsTrue, refl, sym, ap, subst, inl}
use Rattle.std.specs.Prelude.{if◌then◌else◌, Option, Ok, Err}
use Rattle.em_regs.specs.declared.reg.Reg.{Reg}
use Rattle.em_regs.specs.declared.reg.Reg.TheVariants as named
use Rattle.em_regs.specs.declared.table.Kind.{Kind}
use Rattle.em_regs.specs.declared.table.Kind.TheVariants.{Stored, Control, EepromRead, Status, Interrupt, Counter}
use Rattle.em_regs.specs.declared.table.Kind.TheVariants.{EepromPins, PhyCommand, Uncounted}
use Rattle.em_regs.specs.Table.{IsReg, has_reg, reg_at, row_of, is_stored_kind, offset_of}
use Rattle.em_regs.specs.RegFile.{IsStored, OnlyStores}
use Rattle.em_latch.specs.Latches.{is_latched, is_latched_kind}
use Rattle.em_regs.proofs.TableLaws.{reg_at-offset_of}
use Rattle.em_regs.proofs.ProfileLaws.{reg_of-offset_of}
use Rattle.em_regs.specs.RegFile as registers
use Rattle.em_regs.specs.Storage.{Registers}
use Rattle.em_step.specs.State.{State}
use Rattle.em_step.specs.Cells.{Cells, shows}
use Rattle.em_step.specs.Access.{gives, gives_by, after_read, after_latch_write, after_write, after_write_by}
use Rattle.em_step.specs.Access.{is_reset, is_reset_by}
use Rattle.em_latch.specs.Latches as latches
use Rattle.em_step.specs.Cost.{cost, least_cost, most_cost}
use Rattle.em_step.specs.Event.{reads, writes}
use Rattle.em_step.specs.Step.{at_none, at_register, step, resets, needs_memory, Refuses}
use Rattle.em_step.specs.declared.event.Answer.TheVariants.{Done, Value}
use Rattle.em_step.specs.declared.refusal.Refusal.{Refusal}
use Rattle.em_step.specs.declared.refusal.Refusal.TheVariants.{Memory}

-- no other register has the kind of STATUS
pub status_alone : (reg : Reg) → reg ≢ named.Status → (row_of reg).kind ≢ Status
status_alone named.Status other = absurd (other refl)
status_alone reg other = λ same. cc

-- nor of EECD, nor of MDIC
pub pins_alone : (reg : Reg) → reg ≢ named.Eecd → (row_of reg).kind ≢ EepromPins
pins_alone named.Eecd other = absurd (other refl)
pins_alone reg other = λ same. cc

pub mdic_alone : (reg : Reg) → reg ≢ named.Mdic → (row_of reg).kind ≢ PhyCommand
mdic_alone named.Mdic other = absurd (other refl)
mdic_alone reg other = λ same. cc

-- ---- the access of a register is that of its offset
pub read_step : (s : State) (reg : Reg) → IsReg reg → IsTrue (has_reg s.profile reg)
    → step s (reads (offset_of reg)) ≡ Ok (Value (gives s reg), after_read s reg)
read_step s reg is has =
    ap (λ r. at_register r (λ q. (Value (gives s q), after_read s q)) (at_none s (offset_of reg) (Value 0)))
    (reg_of-offset_of s.profile reg is has)

pub write_step : (s : State) (reg : Reg) (v : ℕ) → IsReg reg → IsTrue (has_reg s.profile reg)
    → step s (writes (offset_of reg) v) ≡ Ok (Done, after_write s reg v)
write_step s reg v is has =
    ap (λ r. at_register r (λ q. (Done, after_write s q v)) (at_none s (offset_of reg) Done))
    (reg_of-offset_of s.profile reg is has)

pub write_costs : (s : State) (reg : Reg) (v : ℕ) → IsReg reg
    → cost s (writes (offset_of reg) v) ≡ (if is_reset reg v then most_cost else least_cost)
write_costs s reg v is = ap (λ r. if resets r v then most_cost else least_cost) (reg_at-offset_of reg is)

-- a write is refused only for want of memory, where it resets
pub write_refuses : (s : State) (reg : Reg) (v : ℕ) (r : Refusal) → IsReg reg → IsTrue (has_reg s.profile reg)
    → (r ≡ Memory) × IsTrue (is_reset reg v) → Refuses s (writes (offset_of reg) v) r
write_refuses s reg v r is has why =
    let resetting : IsTrue (resets (reg_at (offset_of reg)) v)
    = subst (λ o. IsTrue (resets o v)) (sym (reg_at-offset_of reg is)) why.1 in
    let Refused : Option Reg → Type 0 = λ o.
    ((r ≡ Memory) × IsTrue (resets (reg_at (offset_of reg)) v)
    × IsTrue (needs_memory (at_register o (λ q. (Done, after_write s q v)) (at_none s (offset_of reg) Done))))
    ⊎ (at_register o (λ q. (Done, after_write s q v)) (at_none s (offset_of reg) Done) ≡ Err r) in
    subst Refused (sym (reg_of-offset_of s.profile reg is has)) (inl (why.0, resetting, refl))

-- the same cells are of the same profile
had : (cells now : Cells) (reg : Reg) → cells ≡ now → IsTrue (has_reg now.profile reg)
    → IsTrue (has_reg cells.profile reg)
had cells now reg same has = subst (λ (x : Cells). IsTrue (has_reg x.profile reg)) (sym same) has

-- ---- a register that stores what is written
gives_stored_by : (kind : Kind) (s : State) (reg : Reg) → IsTrue (is_stored_kind kind)
    → gives_by kind s reg ≡ registers.at s.registers (offset_of reg)
gives_stored_by Stored s reg stored = refl
gives_stored_by Control s reg stored = refl
gives_stored_by EepromRead s reg stored = refl
gives_stored_by Status s reg stored = cc
gives_stored_by Interrupt s reg stored = cc
gives_stored_by Counter s reg stored = cc
gives_stored_by EepromPins s reg stored = cc
gives_stored_by PhyCommand s reg stored = cc
gives_stored_by Uncounted s reg stored = cc

pub gives_stored : (s : State) (reg : Reg) → IsStored reg → gives s reg ≡ registers.at s.registers (offset_of reg)
gives_stored s reg is = gives_stored_by (row_of reg).kind s reg is.1

unlatched_kind : (kind : Kind) → IsTrue (is_stored_kind kind) → is_latched_kind kind ≡ false
unlatched_kind Interrupt stored = cc
unlatched_kind Counter stored = cc
unlatched_kind kind stored = refl

-- a read of one changes nothing
read_leaves : (s : State) (reg : Reg) → is_latched reg ≡ false → after_read s reg ≡ s
read_leaves s reg kept =
    ap (λ b. if b then record s { latches = latches.after_read s.latches reg } else s) kept

pub reads_stored : (cells now : Cells) (reg : Reg) {v : ℕ} → cells ≡ now → IsStored reg
    → IsTrue (has_reg now.profile reg) → v ≡ registers.at cells.registers (offset_of reg)
    → step (shows now) (reads (offset_of reg)) ≡ Ok (Value v, shows now)
reads_stored cells now reg {v} same is has value =
    let s = shows cells in
    let there = had cells now reg same has in
    let given = gives_stored s reg is ∙ sym value in
    let left = read_leaves s reg (unlatched_kind (row_of reg).kind is.1) in
    subst (λ (x : Cells). step (shows x) (reads (offset_of reg)) ≡ Ok (Value v, shows x)) same
    (read_step s reg is.0 there ∙ (λ i. Ok (Value (given i), left i)))

-- ---- a read, where the kind is known and is not latched
pub reads_by : (kind : Kind) (s : State) (reg : Reg) {v : ℕ} → IsReg reg → IsTrue (has_reg s.profile reg)
    → (row_of reg).kind ≡ kind → is_latched_kind kind ≡ false → v ≡ gives_by kind s reg
    → step s (reads (offset_of reg)) ≡ Ok (Value v, s)
reads_by kind s reg {v} is has same unlatched value =
    let given : gives s reg ≡ v = ap (λ k. gives_by k s reg) same ∙ sym value in
    let left : after_read s reg ≡ s = read_leaves s reg (ap is_latched_kind same ∙ unlatched) in
    read_step s reg is has ∙ (λ i. Ok (Value (given i), left i))

-- ---- a write, where the kind is known
-- a register whose write does nothing else is stored
pub only_stored : (reg : Reg) → OnlyStores reg → IsStored reg
only_stored reg is = (is.0, subst (λ kind. IsTrue (is_stored_kind kind)) (sym is.1) refl)

pub writes_by : (kind : Kind) (s : State) (reg : Reg) (v : ℕ) {t : State} → IsReg reg → IsTrue (has_reg s.profile reg)
    → (row_of reg).kind ≡ kind → t ≡ after_write_by kind s reg v → step s (writes (offset_of reg) v) ≡ Ok (Done, t)
writes_by kind s reg v is has same state =
    write_step s reg v is has ∙ ap (λ k. Ok (Done, after_write_by k s reg v)) same ∙ sym (ap (λ x. Ok (Done, x)) state)

pub writes_stored : (cells now : Cells) (reg : Reg) (v : ℕ) {after : Registers}
    → cells ≡ now → OnlyStores reg → IsTrue (has_reg now.profile reg) → after ≡ registers.put_in cells.profile cells.registers reg v
    → step (shows now) (writes (offset_of reg) v) ≡ Ok (Done, shows (record cells { registers = after }))
writes_stored cells now reg v {after} same is has state =
    let s = shows cells in
    subst (λ (x : Cells). step (shows x) (writes (offset_of reg) v) ≡ Ok (Done, shows (record cells { registers = after })))
    same (writes_by Stored s reg v is.0 (had cells now reg same has) is.1 (ap (λ m. record s { registers = m }) state))

pub costs_by : (kind : Kind) (s : State) (reg : Reg) (v : ℕ) → IsReg reg → (row_of reg).kind ≡ kind
    → cost s (writes (offset_of reg) v) ≡ (if is_reset_by kind v then most_cost else least_cost)
costs_by kind s reg v is same =
    write_costs s reg v is ∙ ap (λ k. if is_reset_by k v then most_cost else least_cost) same

-- ---- an interrupt register or a counter
gives_latched_by : (kind : Kind) (s : State) (reg : Reg) → IsTrue (is_latched_kind kind)
    → gives_by kind s reg ≡ latches.gives s.latches reg
gives_latched_by Interrupt s reg latched = refl
gives_latched_by Counter s reg latched = refl
gives_latched_by kind s reg latched = cc

after_latched_by : (kind : Kind) (s : State) (reg : Reg) (v : ℕ) → IsTrue (is_latched_kind kind)
    → after_write_by kind s reg v ≡ after_latch_write s reg v
after_latched_by Interrupt s reg v latched = refl
after_latched_by Counter s reg v latched = refl
after_latched_by kind s reg v latched = cc

no_reset_by : (kind : Kind) (v : ℕ) → IsTrue (is_latched_kind kind) → is_reset_by kind v ≡ false
no_reset_by Control v latched = cc
no_reset_by kind v latched = refl

-- a read of one, where the latches are then as they are after it
pub reads_latched : (cells now : Cells) (reg : Reg) {v : ℕ} {after : Registers}
    → cells ≡ now → IsReg reg → IsTrue (is_latched reg) → IsTrue (has_reg now.profile reg)
    → v ≡ latches.gives cells.latches reg → after ≡ latches.after_read cells.latches reg
    → step (shows now) (reads (offset_of reg)) ≡ Ok (Value v, shows (record cells { latches = after }))
reads_latched cells now reg {v} {after} same is latched has value state =
    let s = shows cells in
    let left : after_read s reg ≡ record s { latches = after } =
    ap (λ b. if b then record s { latches = latches.after_read s.latches reg } else s) latched
    ∙ sym (ap (λ l. record s { latches = l }) state) in
    let given = gives_latched_by (row_of reg).kind s reg latched ∙ sym value in
    subst (λ (x : Cells). step (shows x) (reads (offset_of reg)) ≡ Ok (Value v, shows (record cells { latches = after })))
    same (read_step s reg is (had cells now reg same has) ∙ (λ i. Ok (Value (given i), left i)))

-- and a write of one
pub writes_latched : (cells now : Cells) (reg : Reg) (v : ℕ) {after : Registers}
    → cells ≡ now → IsReg reg → IsTrue (is_latched reg) → IsTrue (has_reg now.profile reg)
    → after ≡ latches.after_write cells.latches reg v
    → step (shows now) (writes (offset_of reg) v) ≡ Ok (Done, shows (record cells { latches = after }))
writes_latched cells now reg v {after} same is latched has state =
    let s = shows cells in
    let left = after_latched_by (row_of reg).kind s reg v latched ∙ sym (ap (λ l. record s { latches = l }) state) in
    subst (λ (x : Cells). step (shows x) (writes (offset_of reg) v) ≡ Ok (Done, shows (record cells { latches = after })))
    same (write_step s reg v is (had cells now reg same has) ∙ ap (λ t. Ok (Done, t)) left)

pub latched_costs : (s : State) (reg : Reg) (v : ℕ) → IsReg reg → IsTrue (is_latched reg)
    → cost s (writes (offset_of reg) v) ≡ least_cost
latched_costs s reg v is latched =
    write_costs s reg v is
    ∙ ap (λ b. if b then most_cost else least_cost) (no_reset_by (row_of reg).kind v latched)
