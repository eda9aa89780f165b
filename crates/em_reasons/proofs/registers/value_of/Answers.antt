use Rattle.std.proofs.Common.{◌≡◌, ◌∙◌, ℕ, Option, Some, IsTrue, ap, refl}
use Rattle.std.specs.Prelude.{unwrap_or}
use Rattle.std.specs.Option.{option_map}
use Rattle.em_regs.specs.declared.reg.Reg.{Reg}
use Rattle.em_regs.specs.declared.table.Kind.{Kind}
use Rattle.em_regs.specs.declared.table.Kind.TheVariants.{Stored, Control, EepromRead, Status, Interrupt, Counter}
use Rattle.em_regs.specs.declared.table.Kind.TheVariants.{EepromPins, PhyCommand, Uncounted}
use Rattle.em_regs.specs.RegFile.{IsStored}
use Rattle.em_regs.specs.Setup.{value_of}
use Rattle.em_regs.specs.declared.profile.Profile.TheVariants.{Table}
use Rattle.em_regs.specs.Table.{has_reg, is_stored_kind, offset_of, reg_of, row_of}
use Rattle.em_regs.proofs.ProfileLaws.{reg_of-offset_of}
use Rattle.em_step.specs.State.{State}
use Rattle.em_step.specs.Access.{gives, gives_by}
use Rattle.em_journal.proofs.ProfileLaws.{in_each}
use Rattle.em_reasons.proofs.registers.value_of.Goals as goal

-- a register that keeps what software writes gives that
by_kind : (kind : Kind) (s : State) (reg : Reg) → IsTrue (is_stored_kind kind)
    → gives_by kind s reg ≡ value_of s.registers reg
by_kind Stored s reg is = refl
by_kind Control s reg is = refl
by_kind EepromRead s reg is = refl
by_kind Status s reg is = cc
by_kind Interrupt s reg is = cc
by_kind Counter s reg is = cc
by_kind EepromPins s reg is = cc
by_kind PhyCommand s reg is = cc
by_kind Uncounted s reg is = cc

looked : (s : State) (reg : Reg) (offset value : ℕ) (look : Option ℕ) → IsStored reg
    → IsTrue (has_reg Table reg) → offset ≡ offset_of reg
    → look ≡ option_map (gives s) (reg_of s.profile offset) → value ≡ unwrap_or look 0 → value ≡ value_of s.registers reg
looked s reg offset value look stored each at shown is =
    let found : look ≡ Some (gives s reg)
    = shown ∙ ap (λ (o : ℕ). option_map (gives s) (reg_of s.profile o)) at
    ∙ ap (option_map (gives s)) (reg_of-offset_of s.profile reg stored.0 (in_each reg s.profile (stored.0, each)).1) in
    is ∙ ap (λ (o : Option ℕ). unwrap_or o 0) found ∙ by_kind (row_of reg).kind s reg stored.1

pub returns : goal.returns
returns c =
    looked c.args.machine.now.present c.args.reg c.offset.result c.unwrap_or.result c.look.result c.requires.stored
    c.requires.each c.offset.ensures c.look.ensures c.unwrap_or.ensures
