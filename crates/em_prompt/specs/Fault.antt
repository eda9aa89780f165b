-- What is wrong with a line.
use Rattle.std.specs.Prelude.{ℕ, List}
use Rattle.em_regs.specs.declared.reg.Reg.{Reg}
use Rattle.em_prompt.specs.declared.kind.Kind.{Kind}
use Rattle.em_prompt.specs.declared.fault.Fault.{Fault as Lent}
use Rattle.em_prompt.specs.declared.fault.Fault.TheVariants as lent

pub data Fault : Type 0 where
  -- a word of this kind is not there
  missing : Kind → Fault
  -- this word is one more than the form has
  too_many : List ℕ → Fault
  -- a word is none of this kind
  no : Kind → Fault
  -- so many hexadecimal digits are no octets
  odd_digits : ℕ → Fault
  -- a word names no register
  no_register : List ℕ → Fault
  -- a word names no bit of this register
  no_bit : List ℕ → Reg → Fault
  -- a word names no command
  no_command : List ℕ → Fault

-- a fault of the code without where its word lies in memory
abbrev pub plain : Lent → Fault
plain (lent.Missing kind) = missing kind
plain (lent.TooMany word) = too_many word.now
plain (lent.No kind) = no kind
plain (lent.OddDigits count) = odd_digits count
plain (lent.NoRegister word) = no_register word.now
plain (lent.NoBit word reg) = no_bit word.now reg
plain (lent.NoCommand word) = no_command word.now
