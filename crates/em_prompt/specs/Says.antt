-- What each command says by the words behind its name, or their first fault, from the left.
use Rattle.std.specs.Prelude.{ℕ, Bool, true, false, List, [], ◌∷◌, ◌++◌, codes, if◌then◌else◌, Option, Some, None, Result, Ok, Err}
use Rattle.std.specs.Str.{bytes_eq}
use Rattle.em_text.specs.Numbers.{decimal_number}
use Rattle.em_text.specs.Words.{words_of}
use Rattle.em_line.specs.ParsedLine.{ParsedLine, bad}
use Rattle.em_line.specs.Grammar.{turns_form}
use Rattle.em_prompt.specs.declared.command.Command.{Command}
use Rattle.em_prompt.specs.declared.command.Command.TheVariants as command
use Rattle.em_prompt.specs.declared.kind.Choice.TheVariants.{Way as Ways, Side as Sides, Until as Untils, Changes as Change}
use Rattle.em_prompt.specs.declared.kind.Choice.TheVariants.{Switch, Matter as Matters}
use Rattle.em_prompt.specs.declared.kind.Kind.{Kind}
use Rattle.em_prompt.specs.declared.kind.Kind.TheVariants.{Register, Known, Target, Value, Address, Data, Turn, Watch as Watches}
use Rattle.em_prompt.specs.declared.kind.Kind.TheVariants.{File, Name, Number as Numbers, Choice}
use Rattle.em_prompt.specs.declared.number.Number.{Number}
use Rattle.em_prompt.specs.declared.number.Number.TheVariants.{Peeked, Watched, Packets, Count, Line as LineNumber, Event, Index}
use Rattle.em_prompt.specs.declared.number.Number.TheVariants.{Word}
use Rattle.em_regs.specs.declared.profile.Profile.{Profile}
use Rattle.em_regs.specs.declared.reg.Reg.{Reg}
use Rattle.em_prompt.specs.declared.says.Way.{Way}
use Rattle.em_prompt.specs.declared.says.Way.TheVariants.{Back, Forward}
use Rattle.em_prompt.specs.declared.typed.Lines.TheVariants.{Here, Around, Between}
use Rattle.em_prompt.specs.declared.typed.Matter.{Matter}
use Rattle.em_prompt.specs.declared.typed.Matter.TheVariants as matter
use Rattle.em_prompt.specs.declared.typed.Shown.TheVariants as shown
use Rattle.em_prompt.specs.declared.typed.Side.TheVariants.{Receive, Transmit}
use Rattle.em_prompt.specs.declared.typed.Which.{Which}
use Rattle.em_prompt.specs.declared.typed.Which.TheVariants.{Newest}
use Rattle.em_prompt.specs.declared.fault.Fault.{Fault as LentFault}
use Rattle.em_prompt.specs.declared.typed.Typed.{Typed as LentTyped}
use Rattle.em_prompt.specs.Fault as faults
use Rattle.em_prompt.specs.Fault.{Fault, missing, too_many, no}
use Rattle.em_prompt.specs.Kept.{spaced}
use Rattle.em_prompt.specs.Told.{without_blanks}
use Rattle.em_prompt.specs.Typed as typed
use Rattle.em_prompt.specs.Typed.{Typed}
use Rattle.em_prompt.specs.Register.{named}
use Rattle.em_prompt.specs.Until as until
use Rattle.em_prompt.specs.Value.{Offset, address_in, command_in, data_in, ethernet_in, frame_len_in, kept_number_in, known_in}
use Rattle.em_prompt.specs.Value.{last_line_in, number_in, offset_in, shown_address_in, side_in, switch_in, value_in, watch_in, way_in}
use Rattle.em_prompt.specs.Value.{begins_with_letter, name_in, target_in, which_in, within}
use Rattle.em_prompt.specs.Watch as watched
use Rattle.em_prompt.specs.Watch.{Watch, is_phy}
use Rattle.em_prompt.specs.Word.{hex_address_in}

-- what the code says, without where words lie in memory
abbrev pub plain : Result LentTyped LentFault → Result Typed Fault
plain (Ok said) = Ok (typed.plain said)
plain (Err fault) = Err (faults.plain fault)

-- ---- words one after another

-- what is completed by a thing that was read, or what is wrong with that
abbrev pub with : {A B : Type 0} → Result A Fault → (A → Result B Fault) → Result B Fault
with (Err fault) complete = Err fault
with (Ok value) complete = complete value

-- this is said, unless one more word stands there
abbrev pub alone : Typed → List (List ℕ) → Result Typed Fault
alone said [] = Ok said
alone said (word ∷ words) = Err (too_many word)

-- one word, which must stand there
abbrev pub one : {T : Type 0} → Kind → (List ℕ → Result T Fault) → (T → Typed) → List (List ℕ) → Result Typed Fault
one kind read said [] = Err (missing kind)
one kind read said (word ∷ words) = with (read word) (λ value. alone (said value) words)

-- one word, or else this
abbrev pub one_or : {T : Type 0} → Typed → (List ℕ → Result T Fault) → (T → Typed) → List (List ℕ) → Result Typed Fault
one_or other read said [] = Ok other
one_or other read said (word ∷ words) = with (read word) (λ value. alone (said value) words)

-- ---- em_bench's lines

-- a line with what is kept behind its name
abbrev pub bench : Command → List ℕ → Typed
bench command behind = typed.line (record { command = command; behind = behind })

-- r OFF
abbrev pub read_of : Profile → List (List ℕ) → Result Typed Fault
read_of profile words = one Register (offset_in profile) (λ offset. bench command.Read (spaced offset.text)) words

-- w OFF VAL
abbrev pub value_of : Offset → List (List ℕ) → Result Typed Fault
value_of offset words =
    one Value (value_in offset.reg) (λ value. bench command.Write (spaced offset.text ++ spaced value)) words

abbrev pub write_of : Profile → List (List ℕ) → Result Typed Fault
write_of profile [] = Err (missing Register)
write_of profile (word ∷ words) = with (offset_in profile word) (λ offset. value_of offset words)

-- poke ADDR DATA
abbrev pub poke_of : List (List ℕ) → Result Typed Fault
poke_of [] = Err (missing Address)
poke_of (word ∷ words) =
    with (address_in word) (λ addr. one Data data_in (λ octets. bench command.Poke (spaced addr ++ spaced octets)) words)

-- peek ADDR LEN
abbrev pub peek_of : List (List ℕ) → Result Typed Fault
peek_of [] = Err (missing Address)
peek_of (word ∷ words) =
    with (address_in word) (λ addr. one (Numbers Peeked) (kept_number_in Peeked)
    (λ len. bench command.Peek (spaced addr ++ spaced len)) words)

-- DATA, or DATA LEN
abbrev pub len_of : Command → List ℕ → List ℕ → List (List ℕ) → Result Typed Fault
len_of command word octets words =
    one_or (bench command (spaced octets)) (frame_len_in word) (λ len. bench command (spaced octets ++ spaced len)) words

abbrev pub frame_line : Command → List ℕ → List (List ℕ) → Result Typed Fault
frame_line command word words = with (data_in word) (λ octets. len_of command word octets words)

-- arrive DATA, arrive DATA LEN, arrive next, arrive all
abbrev pub arrive_of : List (List ℕ) → Result Typed Fault
arrive_of [] = Err (missing Data)
arrive_of (word ∷ words) =
    if bytes_eq word (codes "next") then alone typed.arrive_next words else
    if bytes_eq word (codes "all") then alone typed.arrive_all words else
    frame_line command.Arrive word words

-- send DATA, send DATA LEN
abbrev pub send_of : List (List ℕ) → Result Typed Fault
send_of [] = Err (missing Data)
send_of (word ∷ words) = frame_line command.Send word words

-- link up, link down
abbrev pub link_of : List (List ℕ) → Result Typed Fault
link_of words = one (Choice Ways) way_in (λ way. bench command.Link (spaced way)) words

-- recv N
abbrev pub recv_of : List (List ℕ) → Result Typed Fault
recv_of words = one (Numbers Packets) (kept_number_in Packets) (λ most. bench command.Recv (spaced most)) words

-- mac, mac DATA
abbrev pub mac_of : List (List ℕ) → Result Typed Fault
mac_of words = one_or (bench command.Mac []) ethernet_in (λ address. bench command.Mac (spaced address)) words

-- turns WORD .., one word or more, as em_bench reads them; they stay as they stand
abbrev pub plan_of : List ℕ → List (List ℕ) → ParsedLine → Result Typed Fault
plan_of rest [] said = Err (missing Turn)
plan_of rest (word ∷ words) bad = Err (no Turn)
plan_of rest (word ∷ words) said = Ok (bench command.Turns rest)

-- ---- the debugger's own

-- the number that stands there, if a word does, with the words behind it
abbrev pub number_if : Number → List (List ℕ) → Result (Option ℕ × List (List ℕ)) Fault
number_if number [] = Ok (None, [])
number_if number (word ∷ words) = with (number_in number word) (λ n. Ok (Some n, words))

-- look NAME, look OFF
abbrev pub look_of : Profile → List (List ℕ) → Result Typed Fault
look_of profile words = one Known (known_in profile) (λ reg. typed.show (shown.Look reg)) words

-- WATCH, which begins with a word: PHY N, ADDR LEN, or that word alone
abbrev pub word_at : List (List ℕ) → Result (Watch × List (List ℕ)) Fault
word_at [] = Err (missing (Numbers Word))
word_at (word ∷ words) = with (number_in Word word) (λ k. Ok (watched.phy k, words))

abbrev pub octets_at : ℕ → List (List ℕ) → Result (Watch × List (List ℕ)) Fault
octets_at addr [] = Err (missing (Numbers Watched))
octets_at addr (word ∷ words) = with (number_in Watched word) (λ len. Ok (watched.octets addr len, words))

-- a name is no address, where its letters are digits too
abbrev pub address_if : Option Reg → Option ℕ → Option ℕ
address_if (Some reg) at = None
address_if None at = at

abbrev pub watched_address : Profile → List ℕ → Option ℕ
watched_address profile word = address_if (named profile word) (hex_address_in word)

abbrev pub watch_with : Profile → Option ℕ → List ℕ → List (List ℕ) → Result (Watch × List (List ℕ)) Fault
watch_with profile None word words = with (watch_in profile word) (λ watch. Ok (watch, words))
watch_with profile (Some addr) word words = octets_at addr words

abbrev pub watch_at : Profile → List ℕ → List (List ℕ) → Result (Watch × List (List ℕ)) Fault
watch_at profile word words =
    if is_phy word then word_at words else watch_with profile (watched_address profile word) word words

-- again, all, or no word
abbrev pub which_if : List (List ℕ) → Result (Which × List (List ℕ)) Fault
which_if [] = Ok (Newest, [])
which_if (word ∷ words) = with (which_in word) (λ which. Ok (which, words))

-- behind who: wrote NAME, wrote OFF
abbrev pub wrote_of : Profile → List (List ℕ) → Result Typed Fault
wrote_of profile words = one Known (known_in profile) (λ reg. typed.show (shown.Wrote reg)) words

-- who again, who wrote NAME, who wrote OFF, who WATCH, who WATCH again, who WATCH all
abbrev pub who_of : Profile → List (List ℕ) → Result Typed Fault
who_of profile [] = Err (missing Watches)
who_of profile (word ∷ words) =
    if bytes_eq word (codes "again") then alone typed.who_again words else
    if bytes_eq word (codes "wrote") then wrote_of profile words else
    with (watch_at profile word words) (λ watch. with (which_if watch.1) (λ which. alone (typed.who watch.0 which.0) which.1))

-- back, back N, back to LINE; and forward so
abbrev pub moves_by : Way → ℕ → Typed
moves_by Back n = typed.back n
moves_by Forward n = typed.forward n

abbrev pub moves_to : Way → ℕ → Typed
moves_to Back n = typed.back_to n
moves_to Forward n = typed.forward_to n

abbrev pub move_of : Way → List (List ℕ) → Result Typed Fault
move_of way [] = Ok (moves_by way 1)
move_of way (word ∷ words) =
    if bytes_eq word (codes "to") then one (Numbers LineNumber) (number_in LineNumber) (moves_to way) words else
    with (number_in Count word) (λ n. alone (moves_by way n) words)

-- goto EVENT, goto NAME
abbrev pub goto_of : List (List ℕ) → Result Typed Fault
goto_of [] = Err (missing (Numbers Event))
goto_of (word ∷ words) =
    if begins_with_letter word then alone (typed.goto_mark word) words else
    with (number_in Event word) (λ n. alone (typed.goto n) words)

-- mark NAME
abbrev pub mark_of : List (List ℕ) → Result Typed Fault
mark_of words = one Name name_in typed.mark words

-- next, next N
abbrev pub next_of : List (List ℕ) → Result Typed Fault
next_of words = one_or (typed.next 1) (number_in Count) typed.next words

-- WATCH changes
abbrev pub ends_changes : Watch → List (List ℕ) → Result Typed Fault
ends_changes watch [] = Err (missing (Choice Change))
ends_changes watch (word ∷ words) =
    if bytes_eq word (codes "changes") then alone (typed.run_until (until.changes watch)) words else Err (no (Choice Change))

abbrev pub changes_of : Profile → List ℕ → List (List ℕ) → Result Typed Fault
changes_of profile word words = with (watch_at profile word words) (λ watch. ends_changes watch.0 watch.1)

-- LINE, alone, or WATCH changes
abbrev pub line_or_changes : Profile → Option ℕ → List ℕ → List (List ℕ) → Result Typed Fault
line_or_changes profile (Some n) word [] = with (within LineNumber n) (λ n. Ok (typed.run_until (until.line n)))
line_or_changes profile at word words = changes_of profile word words

-- refused, dropped, differs, warning, LINE, or WATCH changes
abbrev pub until_of : Profile → List (List ℕ) → Result Typed Fault
until_of profile [] = Err (missing Watches)
until_of profile (word ∷ words) =
    if bytes_eq word (codes "refused") then alone (typed.run_until until.refused) words else
    if bytes_eq word (codes "dropped") then alone (typed.run_until until.dropped) words else
    if bytes_eq word (codes "differs") then alone (typed.run_until until.differs) words else
    if bytes_eq word (codes "warning") then alone (typed.run_until until.warning) words else
    line_or_changes profile (decimal_number word) word words

-- run, or run until ..
abbrev pub run_of : Profile → List (List ℕ) → Result Typed Fault
run_of profile [] = Ok typed.run
run_of profile (word ∷ words) = if bytes_eq word (codes "until") then until_of profile words else Err (no (Choice Untils))

-- FILE: all that stands there, without the blanks around it
abbrev pub file_in : List ℕ → List (List ℕ) → Result (List ℕ) Fault
file_in rest [] = Err (missing File)
file_in rest (word ∷ words) = Ok (without_blanks rest)

abbrev pub file_of : (List ℕ → Typed) → List ℕ → Result Typed Fault
file_of said rest = with (file_in rest (words_of rest)) (λ name. Ok (said name))

-- LINE alone, or LINE LAST
abbrev pub lines_from : ℕ → List (List ℕ) → Result Typed Fault
lines_from line words =
    one_or (typed.show (shown.List (Around line))) (last_line_in line) (λ last. typed.show (shown.List (Between line last)))
    words

-- list, list LINE, list LINE LAST
abbrev pub list_of : List (List ℕ) → Result Typed Fault
list_of [] = Ok (typed.show (shown.List Here))
list_of (word ∷ words) = with (number_in LineNumber word) (λ line. lines_from line words)

-- history, history N; effect, effect EVENT; frame, frame I
abbrev pub history_of : List (List ℕ) → Result Typed Fault
history_of words = with (number_if Count words) (λ most. alone (typed.show (shown.History most.0)) most.1)

abbrev pub effect_of : List (List ℕ) → Result Typed Fault
effect_of words = with (number_if Event words) (λ event. alone (typed.show (shown.Effect event.0)) event.1)

abbrev pub frame_of : List (List ℕ) → Result Typed Fault
frame_of words = with (number_if Index words) (λ index. alone (typed.show (shown.Frame index.0)) index.1)

-- accesses NAME, accesses ADDR, and N behind that
abbrev pub accesses_of : Profile → List (List ℕ) → Result Typed Fault
accesses_of profile [] = Err (missing Target)
accesses_of profile (word ∷ words) =
    with (target_in profile word) (λ target. with (number_if Count words)
    (λ most. alone (typed.show (shown.Accesses target most.0)) most.1))

-- ring rx, ring tx
abbrev pub ring_of : List (List ℕ) → Result Typed Fault
ring_of words = one (Choice Sides) side_in (λ side. typed.show (shown.Ring side)) words

-- memory ADDR LEN
abbrev pub memory_of : List (List ℕ) → Result Typed Fault
memory_of [] = Err (missing Address)
memory_of (word ∷ words) =
    with (shown_address_in word) (λ addr. one (Numbers Peeked) (number_in Peeked) (λ len. typed.show (shown.Memory addr len)) words)

-- a line of this number
abbrev pub matter_line : Option ℕ → Result Matter Fault
matter_line None = Err (no (Choice Matters))
matter_line (Some n) = with (within LineNumber n) (λ n. Ok (matter.Line n))

-- rx, tx, line, dropped, LINE
abbrev pub matter_in : List ℕ → Result Matter Fault
matter_in word =
    if bytes_eq word (codes "rx") then Ok (matter.Step Receive) else
    if bytes_eq word (codes "tx") then Ok (matter.Step Transmit) else
    if bytes_eq word (codes "line") then Ok matter.Interrupt else
    if bytes_eq word (codes "dropped") then Ok matter.Dropped else
    matter_line (decimal_number word)

-- why, and one of these
abbrev pub why_of : List (List ℕ) → Result Typed Fault
why_of words = one_or (typed.show (shown.Why matter.Newest)) matter_in (λ m. typed.show (shown.Why m)) words

-- on, off, or RULE
abbrev pub warnings_by : List ℕ → Typed
warnings_by word =
    if bytes_eq word (codes "on") then typed.warnings true else
    if bytes_eq word (codes "off") then typed.warnings false else
    typed.warnings_of word

-- warnings, warnings on, warnings off, warnings RULE
abbrev pub warnings_of : List (List ℕ) → Result Typed Fault
warnings_of [] = Ok (typed.show shown.Warnings)
warnings_of (word ∷ words) = alone (warnings_by word) words

-- auto on, auto off
abbrev pub auto_of : List (List ℕ) → Result Typed Fault
auto_of words = one (Choice Switch) switch_in typed.auto words

-- help, help COMMAND
abbrev pub help_of : List (List ℕ) → Result Typed Fault
help_of words = one_or (typed.show (shown.Help None)) command_in (λ command. typed.show (shown.Help (Some command))) words

-- ---- each command, with all that stands behind its name, in which registers are those of a profile

abbrev pub says : Profile → Command → List ℕ → Result Typed Fault
says profile command.Read rest = read_of profile (words_of rest)
says profile command.Write rest = write_of profile (words_of rest)
says profile command.Poke rest = poke_of (words_of rest)
says profile command.Peek rest = peek_of (words_of rest)
says profile command.Arrive rest = arrive_of (words_of rest)
says profile command.Link rest = link_of (words_of rest)
says profile command.Send rest = send_of (words_of rest)
says profile command.Recv rest = recv_of (words_of rest)
says profile command.Mac rest = mac_of (words_of rest)
says profile command.Turns rest = plan_of rest (words_of rest) (turns_form (words_of rest))
says profile command.Rx rest = alone (bench command.Rx []) (words_of rest)
says profile command.Tx rest = alone (bench command.Tx []) (words_of rest)
says profile (command.Bench look) rest = alone (bench (command.Bench look) []) (words_of rest)
says profile command.Init rest = alone (bench command.Init []) (words_of rest)
says profile command.Stats rest = alone (bench command.Stats []) (words_of rest)
says profile command.Look rest = look_of profile (words_of rest)
says profile command.Who rest = who_of profile (words_of rest)
says profile command.Back rest = move_of Back (words_of rest)
says profile command.Forward rest = move_of Forward (words_of rest)
says profile command.Goto rest = goto_of (words_of rest)
says profile command.Mark rest = mark_of (words_of rest)
says profile command.Marks rest = alone (typed.show shown.Marks) (words_of rest)
says profile command.Next rest = next_of (words_of rest)
says profile command.Run rest = run_of profile (words_of rest)
says profile command.Load rest = file_of typed.load rest
says profile command.Save rest = file_of typed.save rest
says profile command.SaveOver rest = file_of typed.save_over rest
says profile command.Pcap rest = file_of typed.pcap rest
says profile command.PcapOver rest = file_of typed.pcap_over rest
says profile command.List rest = list_of (words_of rest)
says profile command.History rest = history_of (words_of rest)
says profile command.Accesses rest = accesses_of profile (words_of rest)
says profile command.Effect rest = effect_of (words_of rest)
says profile command.Ring rest = ring_of (words_of rest)
says profile command.Frame rest = frame_of (words_of rest)
says profile command.Memory rest = memory_of (words_of rest)
says profile command.Why rest = why_of (words_of rest)
says profile command.Warnings rest = warnings_of (words_of rest)
says profile command.Auto rest = auto_of (words_of rest)
says profile command.Help rest = help_of (words_of rest)
says profile command.Quit rest = alone typed.quit (words_of rest)
