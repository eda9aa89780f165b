-- The write that an event is.
use Rattle.std.specs.Prelude.{ℕ, Option, None}
use Rattle.std.specs.Option.{option_map}
use Rattle.em_regs.specs.declared.reg.Reg.{Reg}
use Rattle.em_regs.specs.declared.profile.Profile.TheVariants.{Adapter}
use Rattle.em_regs.specs.Table.{reg_of}
use Rattle.em_step.specs.Event.{Event, writes}

-- the register that an event writes, and the value
abbrev pub written_by : Event → Option (Reg × ℕ)
written_by (writes o v) = option_map (λ reg. (reg, v)) (reg_of Adapter o)
written_by _ = None
