-- A device that was reset and is not enabled yet.
use Rattle.std.specs.Prelude.{◌≡◌, false, []}
use Rattle.em_regs.specs.Setup.{value_of}
use Rattle.em_regs.specs.declared.reg.Reg.TheVariants.{Rctl, Tctl}
use Rattle.em_regs.specs.declared.profile.Profile.TheVariants.{Table}
use Rattle.em_filter.specs.Bits.{vme}
use Rattle.em_rx.specs.Fifo.{empty}
use Rattle.em_step.specs.State.{State}

-- neither receiving nor sending is enabled, and nothing waits for it
pub record IsOff (s : State) : Type 0 where
  pub rctl : value_of s.registers Rctl ≡ 0
  pub tctl : value_of s.registers Tctl ≡ 0
  pub untagged : vme s.registers ≡ false
  pub profile : s.profile ≡ Table
  pub fifo : s.fifo ≡ empty
  pub gathered : s.gathered ≡ []

-- all but the latches is as it was
pub record Rests (s t : State) : Type 0 where
  pub registers : t.registers ≡ s.registers
  pub base : t.base ≡ s.base
  pub memory : t.memory ≡ s.memory
  pub fifo : t.fifo ≡ s.fifo
  pub gathered : t.gathered ≡ s.gathered
  pub wire : t.wire ≡ s.wire
  pub profile : t.profile ≡ s.profile
