-- What is wrong with a line, as a text.
use Rattle.std.specs.Prelude.{ℕ, List, [], ◌++◌, codes, decimal, get_or, Option, Some, None}
use Rattle.em_regs.specs.declared.reg.Reg.{Reg}
use Rattle.em_regs.specs.declared.reg.Reg.TheVariants.{Ctrl}
use Rattle.em_names.specs.Names as names
use Rattle.em_prompt.specs.declared.command.Command.{Command}
use Rattle.em_prompt.specs.declared.foreign.Foreign.{Foreign}
use Rattle.em_prompt.specs.Command.{name_of}
use Rattle.em_prompt.specs.Fault.{Fault, missing, too_many, no, odd_digits, no_register, no_bit, no_command}
use Rattle.em_prompt.specs.Foreign.{foreign_called, here_of}
use Rattle.em_prompt.specs.Kind.{called, rule}
use Rattle.em_prompt.specs.Near.{near_of}
use Rattle.em_prompt.specs.Prompt.{Wrong, unknown, behind}

abbrev pub register_name : List Reg → ℕ → List ℕ
register_name regs i = names.name_of (get_or regs i Ctrl)

-- three registers that may be meant
abbrev pub near_text : Option (List Reg) → List ℕ
near_text None = []
near_text (Some regs) =
    codes ": " ++ (register_name regs 0 ++ (codes ", " ++ (register_name regs 1 ++ (codes ", "
    ++ (register_name regs 2 ++ codes "?")))))

abbrev pub no_register_text : Option (List Reg) → List ℕ → List ℕ
no_register_text near word = (codes "no register " ++ word) ++ near_text near

-- something else is to be typed
abbrev pub other_text : List ℕ → List ℕ → List ℕ → List ℕ
other_text word before other = codes "no command " ++ (word ++ (before ++ (other ++ codes "; help says which there are")))

-- where no command may be meant, and where one may be
abbrev pub none_near_text : List ℕ → Option Command → List ℕ
none_near_text word None = codes "no command " ++ (word ++ codes ": help says which there are")
none_near_text word (Some near) = other_text word (codes ", near: ") (name_of near)

-- of a word of gdb's what does the same here
abbrev pub or_near_text : List ℕ → Option Foreign → List ℕ
or_near_text word (Some foreign) = other_text word (codes ", here: ") (here_of foreign)
or_near_text word None = none_near_text word (near_of word)

abbrev pub no_command_text : List ℕ → List ℕ
no_command_text word = or_near_text word (foreign_called word)

-- a text behind a command's name, and its end
abbrev pub at_text : Command → List ℕ → List ℕ → List ℕ
at_text command text end = name_of command ++ (codes ": " ++ (text ++ end))

-- a fault behind a command's name; `near` are the registers that may be meant
abbrev pub fault_text : Option (List Reg) → Command → Fault → List ℕ
fault_text near command (missing kind) = at_text command (called kind) (codes " is missing")
fault_text near command (too_many word) = at_text command word (codes " is too much")
fault_text near command (no kind) = at_text command (called kind) (rule kind)
fault_text near command (odd_digits count) = at_text command (decimal count) (codes " digits are no octets")
fault_text near command (no_register word) = no_register_text near word
fault_text near command (no_bit word reg) =
    codes "no bit " ++ (word ++ (codes " in " ++ names.name_of reg))
fault_text near command (no_command word) = no_command_text word

abbrev pub wrong_text : Option (List Reg) → Wrong → List ℕ
wrong_text near (unknown word) = no_command_text word
wrong_text near (behind command fault) = fault_text near command fault
