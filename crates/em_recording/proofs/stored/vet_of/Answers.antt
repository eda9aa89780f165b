use Rattle.std.proofs.Common.{◌≡◌, ℕ, ◌∙◌, Some, refl, ap, arith}
use Rattle.std.specs.Prelude.{Option}
use Rattle.std.specs.Option.{option_map}
use Rattle.em_regs.specs.declared.reg.Reg.TheVariants.{Vet}
use Rattle.em_regs.specs.Table.{offset_of, reg_of}
use Rattle.em_regs.proofs.ProfileLaws.{reg_of-offset_of}
use Rattle.em_step.specs.State.{State}
use Rattle.em_step.specs.Access.{gives}
use Rattle.em_recording.proofs.stored.vet_of.Goals as goal

-- a look at VET finds it
found : (s : State) (o : ℕ) (shown : Option ℕ) → o ≡ offset_of Vet → shown ≡ option_map (gives s) (reg_of s.profile o)
    → shown ≡ Some (gives s Vet)
found s o shown at is =
    is ∙ ap (λ (k : ℕ). option_map (gives s) (reg_of s.profile k)) at
    ∙ ap (option_map (gives s)) (reg_of-offset_of s.profile Vet (omega arith) refl)

pub unreachable-requires : goal.unreachable-requires
unreachable-requires c =
    let shown = found c.args.machine.now.present c.offset.result c.look.result c.offset.ensures c.look.ensures in
    let none = c.in-None.is in
    cc

pub returns : goal.returns
returns c =
    let shown = found c.args.machine.now.present c.offset.result c.look.result c.offset.ensures c.look.ensures in
    let some = c.in-Some.is in
    cc
