-- What happened so far that a known difference rests on.
use Rattle.std.specs.Prelude.{ℕ, ◌==◌, not, bit_and, if◌then◌else◌, Bool, true, false, Option, Some, None}
use Rattle.em_regs.specs.declared.profile.Profile.TheVariants.{Table}
use Rattle.em_regs.specs.Table.{reg_of}
use Rattle.em_regs.specs.declared.reg.Reg.{Reg}
use Rattle.em_regs.specs.declared.reg.Reg.TheVariants as reg
use Rattle.em_step.specs.Event.{Event, reads, writes, arrives}
use Rattle.em_line.specs.Command.{back, back_by, event}
use Rattle.em_line.specs.ParsedLine.{ParsedLine, asks, says}
use Rattle.em_known.specs.declared.causes.Causes.{Causes}

-- nothing was written, and nothing came: a machine that was made, or that was reset right now
abbrev pub at_power : Causes
at_power = record {
  ctrl = false;
  ledctl = false;
  pba = false;
  vet = false;
  tdt = false;
  rdt = false;
  enabled = false;
  sent = false;
  arrived = false;
}

-- it is not known what happened: nothing is as after a reset, and no engine or frame is the cause of anything
abbrev pub lost : Causes
lost = record {
  ctrl = true;
  ledctl = true;
  pba = true;
  vet = true;
  tdt = false;
  rdt = false;
  enabled = false;
  sent = false;
  arrived = false;
}

-- a read of ICR clears it: what came before is no cause any more
abbrev pub after_read : Causes → Reg → Causes
after_read c reg.Icr = record c { sent = false; arrived = false }
after_read c _ = c

-- this bit of a value is set
abbrev pub has : ℕ → ℕ → Bool
has value bit = not (bit_and value bit == 0)

-- bit 26 of CTRL resets the adapter, and bit 1 of RCTL turns the receiver on
abbrev pub after_write : Causes → Reg → ℕ → Causes
after_write c reg.Ctrl value = if has value 0x04000000 then at_power else record c { ctrl = true }
after_write c reg.Ledctl value = record c { ledctl = true }
after_write c reg.Pba value = record c { pba = true }
after_write c reg.Vet value = record c { vet = true }
after_write c reg.Tdt value = record c { tdt = true; sent = true }
after_write c reg.Tctl value = record c { sent = true }
after_write c reg.Rdt value = record c { rdt = true }
after_write c reg.Rctl value = if has value 0x00000002 then record c { enabled = true } else c
after_write c _ value = c

abbrev pub read_at : Causes → Option Reg → Causes
read_at c None = c
read_at c (Some r) = after_read c r

abbrev pub written_at : Causes → Option Reg → ℕ → Causes
written_at c None value = c
written_at c (Some r) value = after_write c r value

abbrev pub after_event : Causes → Event → Causes
after_event c (reads offset) = read_at c (reg_of Table offset)
after_event c (writes offset value) = written_at c (reg_of Table offset) value
after_event c (arrives octets) = record c { arrived = true }
after_event c _ = c

-- behind one more line, as it is played
abbrev pub after_line : Causes → ParsedLine → Causes
after_line c (says (event e)) = after_event c e
after_line c (says back) = lost
after_line c (says (back_by n)) = lost
after_line c (asks request) = lost
after_line c _ = c
