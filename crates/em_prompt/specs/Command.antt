-- The commands by their names, with their lines of the help: those of em_bench's lines, and the debugger's own.
use Rattle.std.specs.Prelude.{ℕ, List, [], ◌∷◌, codes, Option, Some, None, find}
use Rattle.std.specs.Str.{bytes_eq}
use Rattle.em_line.specs.declared.look.Look.{Look}
use Rattle.em_line.specs.Look.{look_called, row_of as look_row}
use Rattle.em_prompt.specs.declared.command.Command.{Command}
use Rattle.em_prompt.specs.declared.command.Command.TheVariants as command

-- the name of a command, and its line of the help
abbrev pub row_of : Command → List ℕ × List ℕ
row_of command.Read = (codes "r", codes "r NAME|OFF: reads a register")
row_of command.Write = (codes "w", codes "w NAME|OFF VAL: writes a register; VAL may be bits, as EN|BAM")
row_of command.Poke = (codes "poke", codes "poke ADDR DATA: writes octets to guest memory")
row_of command.Peek = (codes "peek", codes "peek ADDR LEN: shows octets of guest memory")
row_of command.Arrive = (
  codes "arrive",
  codes "arrive DATA [LEN]: a frame arrives, with zeros up to LEN octets; arrive next|all: of a capture",
)
row_of command.Rx = (codes "rx", codes "rx: the receive engine handles a descriptor")
row_of command.Tx = (codes "tx", codes "tx: the transmit engine handles a descriptor")
row_of command.Link = (codes "link", codes "link up|down: takes the link up or down")
row_of (command.Bench look) = look_row look
row_of command.Init = (codes "init", codes "init: starts the driver")
row_of command.Send = (codes "send", codes "send DATA [LEN]: gives the driver a packet to send")
row_of command.Recv = (codes "recv", codes "recv N: takes at most N packets from the driver")
row_of command.Stats = (codes "stats", codes "stats: reads the driver's counters")
row_of command.Mac = (codes "mac", codes "mac [DATA]: reads or sets the driver's Ethernet address")
row_of command.Turns =
    (codes "turns", codes "turns WORD ..: what others do between the accesses of the driver's next call")
row_of command.Look = (codes "look", codes "look NAME|OFF: shows a register with its bits, and no event")
row_of command.Who = (
  codes "who",
  codes "who WATCH [again|all]: the last event that changed it; who again: the one before; who wrote NAME|OFF",
)
row_of command.Back = (codes "back", codes "back [N]: N events back; back to LINE")
row_of command.Forward = (codes "forward", codes "forward [N]: N events forward; forward to LINE")
row_of command.Goto =
    (codes "goto", codes "goto EVENT|NAME: to where so many events are performed, or to the place of a name")
row_of command.Mark = (codes "mark", codes "mark NAME: gives the place a name")
row_of command.Marks = (codes "marks", codes "marks: shows the places that have names")
row_of command.Next = (codes "next", codes "next [N]: performs N lines")
row_of command.Run = (codes "run", codes "run [until refused|dropped|differs|warning|LINE|WATCH changes]: performs lines")
row_of command.Load =
    (codes "load", codes "load FILE: puts the lines of a file behind the others, or offers the frames of a capture")
row_of command.Save = (codes "save", codes "save FILE: writes the lines to a new file")
row_of command.SaveOver = (codes "save!", codes "save! FILE: the same, over a file that is there")
row_of command.List =
    (codes "list", codes "list [LINE [LAST]]: shows lines of the script: around the place or LINE, or from LINE to LAST")
row_of command.History = (codes "history", codes "history [N]: shows the newest N events")
row_of command.Accesses =
    (codes "accesses", codes "accesses NAME|ADDR [N]: the newest N reads and writes of a register or an octet")
row_of command.Effect = (codes "effect", codes "effect [EVENT]: shows what an event changed")
row_of command.Ring = (codes "ring", codes "ring rx|tx: shows the descriptors of a ring")
row_of command.Frame =
    (codes "frame", codes "frame [I]: shows the frames that wait in the adapter, or octets of sent frame I, from 0")
row_of command.Memory = (codes "memory", codes "memory ADDR LEN: shows guest memory in lines")
row_of command.Why = (
  codes "why",
  codes "why [rx|tx|line|dropped|LINE]: the rule by which an event did nothing, or a step would, and who set what it looks at",
)
row_of command.Warnings = (
  codes "warnings",
  codes "warnings [RULE]: what drivers got wrong, rule by rule or each place; on|off: says it behind lines, or not",
)
row_of command.Auto = (codes "auto", codes "auto on|off: lets the engines run by themselves, or not")
row_of command.Pcap = (codes "pcap", codes "pcap FILE: writes the frames that were sent to a new capture")
row_of command.PcapOver = (codes "pcap!", codes "pcap! FILE: the same, over a file that is there")
row_of command.Help = (codes "help", codes "help [COMMAND]: shows this")
row_of command.Quit = (codes "quit", codes "quit: ends the session")

abbrev pub name_of : Command → List ℕ
name_of command = (row_of command).0

abbrev pub help_of : Command → List ℕ
help_of command = (row_of command).1

-- all of them but em_bench's looks, as the help shows them
abbrev pub commands : List Command
commands = command.Read ∷ command.Write ∷ command.Poke ∷ command.Peek ∷ command.Arrive ∷ command.Rx ∷ command.Tx ∷
    command.Link ∷ command.Init ∷ command.Send ∷ command.Recv ∷
    command.Stats ∷ command.Mac ∷ command.Turns ∷ command.Look ∷ command.Who ∷ command.Back ∷ command.Forward ∷
    command.Goto ∷ command.Mark ∷ command.Marks ∷ command.Next ∷ command.Run ∷ command.Load ∷ command.Save ∷ command.SaveOver ∷ command.List ∷
    command.History ∷ command.Accesses ∷ command.Effect ∷ command.Ring ∷ command.Frame ∷ command.Memory ∷ command.Why ∷ command.Warnings ∷
    command.Auto ∷ command.Pcap ∷ command.PcapOver ∷ command.Help ∷ command.Quit ∷ []

abbrev pub other_command : List ℕ → Option Command
other_command word = find (λ command. bytes_eq word (name_of command)) commands

abbrev pub look_or_other : Option Look → List ℕ → Option Command
look_or_other (Some look) word = Some (command.Bench look)
look_or_other None word = other_command word

-- the command that a word names: a look of em_bench's, or another
abbrev pub command_of : List ℕ → Option Command
command_of word = look_or_other (look_called word) word
