-- The help: a line for each command.
use Rattle.std.specs.Prelude.{ℕ, List, ◌++◌, codes, take, drop}
use Rattle.std.specs.List.{flat_map}
use Rattle.em_line.specs.declared.look.Look.{Look}
use Rattle.em_line.specs.Look.{looks}
use Rattle.em_prompt.specs.declared.command.Command.{Command}
use Rattle.em_prompt.specs.declared.command.Command.TheVariants as command
use Rattle.em_prompt.specs.Command.{commands, help_of}

-- what stands behind all of them
abbrev pub words_of_help : List ℕ
words_of_help = codes "WATCH is a register, ADDR LEN, line, link, frames, sent or PHY N.\n"

abbrev pub line_of : Command → List ℕ
line_of command = help_of command ++ codes "\n"

abbrev pub line_of_look : Look → List ℕ
line_of_look look = line_of (command.Bench look)

-- em_bench's looks stand behind the first eight
abbrev pub help_text : List ℕ
help_text = flat_map line_of (take 8 commands)
    ++ (flat_map line_of_look looks ++ (flat_map line_of (drop 8 commands) ++ words_of_help))
