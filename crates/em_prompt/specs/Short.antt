-- Commands by the first letters of their names.
use Rattle.std.specs.Prelude.{ℕ, Bool, true, false, not, ◌&&◌, ◌||◌, if◌then◌else◌, List, find, reverse}
use Rattle.std.specs.Prelude.{Option, Some, None}
use Rattle.std.specs.Str.{bytes_eq}
use Rattle.em_prompt.specs.declared.command.Command.{Command}
use Rattle.em_prompt.specs.declared.command.Command.TheVariants as command
use Rattle.em_prompt.specs.declared.foreign.Foreign.{Foreign}
use Rattle.em_prompt.specs.Foreign.{foreign_called}
use Rattle.em_prompt.specs.Command.{command_of, commands, name_of}
use Rattle.em_prompt.specs.Near.{begins}

-- it writes over a file
abbrev pub overwrites : Command → Bool
overwrites command.SaveOver = true
overwrites command.PcapOver = true
overwrites _ = false

-- a line of a script: it reads or writes, or looks; it moves frames, or the link; it calls a driver
abbrev pub is_access : Command → Bool
is_access command.Read = true
is_access command.Write = true
is_access command.Poke = true
is_access command.Peek = true
is_access (command.Bench look) = true
is_access _ = false

abbrev pub is_frame : Command → Bool
is_frame command.Arrive = true
is_frame command.Rx = true
is_frame command.Tx = true
is_frame command.Link = true
is_frame _ = false

abbrev pub asks_driver : Command → Bool
asks_driver command.Init = true
asks_driver command.Send = true
asks_driver command.Recv = true
asks_driver command.Stats = true
asks_driver _ = false

abbrev pub sets_driver : Command → Bool
sets_driver command.Mac = true
sets_driver command.Turns = true
sets_driver _ = false

abbrev pub is_call : Command → Bool
is_call command = asks_driver command || sets_driver command

-- no line of a script
abbrev pub is_own : Command → Bool
is_own command = not (is_access command) && (not (is_frame command) && not (is_call command))

-- letters are the first of its name, and it may be typed so
abbrev pub is_short : List ℕ → Command → Bool
is_short word command = begins word (name_of command) && not (overwrites command)

-- the first that letters may mean, and the last
abbrev pub first_short : List ℕ → Option Command
first_short word = find (is_short word) commands

abbrev pub last_short : List ℕ → Option Command
last_short word = find (is_short word) (reverse commands)

-- the only one, if the two are one, and it is the debugger's own
abbrev pub only_own : Option Command → Option Command → Option Command
only_own (Some first) (Some last) =
    if bytes_eq (name_of first) (name_of last) && is_own first then Some first else None
only_own _ _ = None

abbrev pub not_foreign : Option Foreign → List ℕ → Option Command
not_foreign (Some foreign) word = None
not_foreign None word = only_own (first_short word) (last_short word)

-- the command that the first letters of a name mean: gdb's words mean none
abbrev pub shortened : List ℕ → Option Command
shortened word = not_foreign (foreign_called word) word

abbrev pub or_shortened : List ℕ → Option Command → Option Command
or_shortened word (Some command) = Some command
or_shortened word None = shortened word

-- the command that a word means: by its name, or by the first letters of that
abbrev pub meant : List ℕ → Option Command
meant word = or_shortened word (command_of word)
