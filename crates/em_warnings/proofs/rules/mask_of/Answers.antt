use Rattle.std.proofs.Common.{◌≡◌, ◌∙◌, ℕ, Option, Some, refl, ap, lit<}
use Rattle.std.specs.Prelude.{unwrap_or}
use Rattle.std.specs.Option.{option_map}
use Rattle.em_regs.specs.declared.reg.Reg.{Reg}
use Rattle.em_regs.specs.declared.reg.Reg.TheVariants.{Ims}
use Rattle.em_regs.specs.Table.{IsRegOf, offset_of, reg_of}
use Rattle.em_regs.proofs.ProfileLaws.{reg_of-offset_of}
use Rattle.em_step.specs.State.{State}
use Rattle.em_step.specs.Access.{gives}
use Rattle.em_warnings.proofs.rules.mask_of.Goals as goal

-- what a look at a register's offset gives is what the register gives
looked : (s : State) (reg : Reg) (offset value : ℕ) (look : Option ℕ) → IsRegOf s.profile reg → offset ≡ offset_of reg
    → look ≡ option_map (gives s) (reg_of s.profile offset) → value ≡ unwrap_or look 0 → value ≡ gives s reg
looked s reg offset value look there at shown is =
    let found : look ≡ Some (gives s reg)
    = shown ∙ ap (λ (o : ℕ). option_map (gives s) (reg_of s.profile o)) at
    ∙ ap (option_map (gives s)) (reg_of-offset_of s.profile reg there.0 there.1) in
    is ∙ ap (λ (o : Option ℕ). unwrap_or o 0) found

pub returns : goal.returns
returns c =
    looked c.args.machine.now.present Ims c.offset.result c.unwrap_or.result c.look.result (lit< tt, refl) c.offset.ensures
    c.look.ensures c.unwrap_or.ensures
