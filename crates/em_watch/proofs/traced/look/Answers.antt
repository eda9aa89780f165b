use Rattle.std.proofs.Common.{◌≡◌, ℕ, ◌∙◌, Some, ap}
use Rattle.std.specs.Prelude.{Option}
use Rattle.std.specs.Option.{option_map}
use Rattle.em_regs.specs.declared.reg.Reg.{Reg}
use Rattle.em_regs.specs.Table.{IsRegOf, offset_of, reg_of}
use Rattle.em_regs.proofs.ProfileLaws.{reg_of-offset_of}
use Rattle.em_step.specs.State.{State}
use Rattle.em_step.specs.Access.{gives}
use Rattle.em_watch.proofs.traced.look.Goals as goal

-- a look at a register that the adapter has finds it
found : (s : State) (reg : Reg) (o : ℕ) (shown : Option ℕ) → IsRegOf s.profile reg → o ≡ offset_of reg
    → shown ≡ option_map (gives s) (reg_of s.profile o) → shown ≡ Some (gives s reg)
found s reg o shown named at is =
    is ∙ ap (λ o. option_map (gives s) (reg_of s.profile o)) at
    ∙ ap (option_map (gives s)) (reg_of-offset_of s.profile reg named.0 named.1)

pub unreachable-requires : goal.unreachable-requires
unreachable-requires c =
    let shown = found c.args.machine.now.present c.args.reg c.offset.result c.look.result c.requires c.offset.ensures
    c.look.ensures in
    let none = c.in-None.is in
    cc

pub returns : goal.returns
returns c =
    let shown = found c.args.machine.now.present c.args.reg c.offset.result c.look.result c.requires c.offset.ensures
    c.look.ensures in
    let some = c.in-Some.is in
    cc
