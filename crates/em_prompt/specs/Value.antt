-- What a word writes, or what is wrong with it.
use Rattle.std.specs.Prelude.{ℕ, Bool, true, false, ◌/◌, ◌%◌, ◌==◌, ◌&&◌, ◌||◌, nat_le, if◌then◌else◌, List, [], ◌∷◌, length, codes}
use Rattle.std.specs.Borrow.{Bor}
use Rattle.std.specs.Prelude.{Option, Some, None, Result, Ok, Err}
use Rattle.std.specs.Char.{is_ascii_alphabetic, is_ascii_hexdigit}
use Rattle.std.specs.List.{list_all}
use Rattle.std.specs.Str.{bytes_eq}
use Rattle.em_text.specs.Numbers.{decimal_number, octets_of}
use Rattle.em_text.specs.Writer.{value_digits}
use Rattle.em_line.specs.Digits.{bare}
use Rattle.em_phy.specs.declared.word.PhyWord.{PhyWord}
use Rattle.em_regs.specs.declared.profile.Profile.{Profile}
use Rattle.em_regs.specs.declared.reg.Reg.{Reg}
use Rattle.em_regs.specs.Table.{offset_of, reg_of}
use Rattle.em_prompt.specs.declared.command.Command.{Command}
use Rattle.em_prompt.specs.declared.kind.Choice.TheVariants.{Way, Side as OfSides, More, Switch}
use Rattle.em_prompt.specs.declared.kind.Kind.TheVariants.{Value, Address, Data, Ethernet, FrameLen, LastLine, Name, Number as OfNumber}
use Rattle.em_prompt.specs.declared.kind.Kind.TheVariants.{Choice}
use Rattle.em_prompt.specs.declared.number.Number.{Number}
use Rattle.em_prompt.specs.declared.typed.Side.{Side}
use Rattle.em_prompt.specs.declared.typed.Side.TheVariants.{Receive, Transmit}
use Rattle.em_prompt.specs.declared.typed.Target.{Target}
use Rattle.em_prompt.specs.declared.typed.Target.TheVariants as target
use Rattle.em_prompt.specs.declared.typed.Which.{Which}
use Rattle.em_prompt.specs.declared.typed.Which.TheVariants.{Again, All}
use Rattle.em_prompt.specs.declared.watch.Watch.{Watch as Coded}
use Rattle.em_prompt.specs.declared.watched_len.WatchedLen.{WatchedLen}
use Rattle.em_prompt.specs.declared.fault.Fault.{Fault as LentFault}
use Rattle.em_prompt.specs.declared.kept.Kept.{Kept as LentKept}
use Rattle.em_prompt.specs.declared.value.Offset.{Offset as LentOffset}
use Rattle.em_prompt.specs.Bits.{bits_of}
use Rattle.em_prompt.specs.Fault.{Fault, no, odd_digits, no_register, no_bit, no_command, plain}
use Rattle.em_prompt.specs.Kept.{kept_text}
use Rattle.em_prompt.specs.Number.{least, most}
use Rattle.em_prompt.specs.Register.{known, named}
use Rattle.em_prompt.specs.Short.{meant}
use Rattle.em_prompt.specs.Watch as watch
use Rattle.em_prompt.specs.Watch.{Watch, watched}
use Rattle.em_prompt.specs.Word.{data_digits, hex_address_in, hex_number_in}

-- ---- what the code reads, without where words lie in memory

abbrev pub read_so : {T : Type 0} → Result T LentFault → Result T Fault
read_so (Ok value) = Ok value
read_so (Err fault) = Err (plain fault)

-- with the words behind it
abbrev pub read_with : {T : Type 0} → Result T LentFault → List (List ℕ) → Result (T × List (List ℕ)) Fault
read_with (Ok value) words = Ok (value, words)
read_with (Err fault) words = Err (plain fault)

-- of how many octets are watched, the number alone
abbrev pub len_so : Result WatchedLen LentFault → Result ℕ Fault
len_so (Ok len) = Ok len.octets
len_so (Err fault) = Err (plain fault)

-- of a word of the PHY, its number alone
abbrev pub phy_word_so : Result PhyWord LentFault → Result ℕ Fault
phy_word_so (Ok word) = Ok word.number
phy_word_so (Err fault) = Err (plain fault)

abbrev pub watch_so : Result Coded LentFault → Result Watch Fault
watch_so (Ok w) = Ok (watch.plain w)
watch_so (Err fault) = Err (plain fault)

abbrev pub watch_read_with : Result Coded LentFault → List (List ℕ) → Result (Watch × List (List ℕ)) Fault
watch_read_with (Ok w) words = Ok (watch.plain w, words)
watch_read_with (Err fault) words = Err (plain fault)

abbrev pub kept_so : Result LentKept LentFault → Result (List ℕ) Fault
kept_so (Ok kept) = Ok (kept_text kept)
kept_so (Err fault) = Err (plain fault)

abbrev pub file_so : Result (Bor (List ℕ)) LentFault → Result (List ℕ) Fault
file_so (Ok name) = Ok name.now
file_so (Err fault) = Err (plain fault)

-- OFF as it is kept, and the register that lies there
pub record Offset : Type 0 where
  pub text : List ℕ
  pub reg : Option Reg

abbrev pub offset_so : Result LentOffset LentFault → Result Offset Fault
offset_so (Ok offset) = Ok (record { text = kept_text offset.kept; reg = offset.reg })
offset_so (Err fault) = Err (plain fault)

-- ---- words

-- what stands there, or this fault where nothing does
abbrev pub or_fault : {T : Type 0} → Fault → Option T → Result T Fault
or_fault fault None = Err fault
or_fault fault (Some value) = Ok value

-- this is kept of a word in which something is read
abbrev pub kept_as : {T : Type 0} → List ℕ → Result T Fault → Result (List ℕ) Fault
kept_as word (Ok value) = Ok word
kept_as word (Err fault) = Err fault

abbrev pub is_some : {T : Type 0} → Option T → Bool
is_some None = false
is_some (Some value) = true

-- a register of a profile by its name, or any offset
abbrev pub offset_with : Profile → List ℕ → Option Reg → Option ℕ → Result Offset Fault
offset_with profile word (Some reg) at = Ok (record { text = value_digits (offset_of reg); reg = Some reg })
offset_with profile word None (Some at) = Ok (record { text = bare word; reg = reg_of profile at })
offset_with profile word None None = Err (no_register word)

abbrev pub offset_in : Profile → List ℕ → Result Offset Fault
offset_in profile word = offset_with profile word (named profile word) (hex_number_in word)

abbrev pub bits_value : Reg → Result ℕ (List ℕ) → Result (List ℕ) Fault
bits_value reg (Ok value) = Ok (value_digits value)
bits_value reg (Err name) = Err (no_bit name reg)

-- names of bits, for this register
abbrev pub named_value : Option Reg → List ℕ → Result (List ℕ) Fault
named_value None word = Err (no Value)
named_value (Some reg) word = bits_value reg (bits_of reg word)

-- a number, or names of bits of this register
abbrev pub value_in : Option Reg → List ℕ → Result (List ℕ) Fault
value_in reg word = if is_some (hex_number_in word) then Ok (bare word) else named_value reg word

-- a register of a profile, by its name or its offset
abbrev pub known_in : Profile → List ℕ → Result Reg Fault
known_in profile word = or_fault (no_register word) (known profile word)

-- a register of a profile by its name, or an address in guest memory
abbrev pub target_with : List ℕ → Option Reg → Option ℕ → Result Target Fault
target_with word (Some reg) at = Ok (target.Register reg)
target_with word None (Some addr) = Ok (target.Octet addr)
target_with word None None = Err (no_register word)

abbrev pub target_in : Profile → List ℕ → Result Target Fault
target_in profile word = target_with word (named profile word) (hex_address_in word)

-- an address, of what is shown, and as it is kept
abbrev pub shown_address_in : List ℕ → Result ℕ Fault
shown_address_in word = or_fault (no Address) (hex_address_in word)

abbrev pub address_in : List ℕ → Result (List ℕ) Fault
address_in word = kept_as (bare word) (shown_address_in word)

-- what is wrong with DATA that is no octets: of an odd number of digits that number is told
abbrev pub data_fault : List ℕ → Fault
data_fault word =
    if length word % 2 == 1 && list_all is_ascii_hexdigit word then odd_digits (length word) else no Data

-- octets
abbrev pub data_in : List ℕ → Result (List ℕ) Fault
data_in word = if is_some (octets_of (data_digits word)) then Ok (data_digits word) else Err (data_fault word)

-- octets, 6 of them
abbrev pub ethernet_in : List ℕ → Result (List ℕ) Fault
ethernet_in word =
    if length (data_digits word) == 12 && is_some (octets_of (data_digits word))
    then Ok (data_digits word)
    else Err (no Ethernet)

-- a number from one to another, both counted
abbrev pub between : ℕ → ℕ → Option ℕ → Option ℕ
between low high None = None
between low high (Some n) = if nat_le low n && nat_le n high then Some n else None

-- a number of this kind
abbrev pub within : Number → ℕ → Result ℕ Fault
within number n = if nat_le (least number) n && nat_le n (most number) then Ok n else Err (no (OfNumber number))

abbrev pub number_with : Number → Option ℕ → Result ℕ Fault
number_with number None = Err (no (OfNumber number))
number_with number (Some n) = within number n

abbrev pub number_in : Number → List ℕ → Result ℕ Fault
number_in number word = number_with number (decimal_number word)

abbrev pub kept_number_in : Number → List ℕ → Result (List ℕ) Fault
kept_number_in number word = kept_as word (number_in number word)

-- LEN behind DATA: at most 32,768, and not below DATA's octets
abbrev pub frame_len_in : List ℕ → List ℕ → Result (List ℕ) Fault
frame_len_in before word =
    kept_as word (or_fault (no FrameLen) (between (length (data_digits before) / 2) 32_768 (decimal_number word)))

-- the last of several lines, of which this is the first
abbrev pub last_line_in : ℕ → List ℕ → Result ℕ Fault
last_line_in line word = or_fault (no LastLine) (between line 9_999_999 (decimal_number word))

-- what is watched, in one word
abbrev pub watch_in : Profile → List ℕ → Result Watch Fault
watch_in profile word = or_fault (no_register word) (watched profile word)

-- the name of a command, or its first letters
abbrev pub command_in : List ℕ → Result Command Fault
command_in word = or_fault (no_command word) (meant word)

-- the name of a place: it begins with a letter
abbrev pub begins_with_letter : List ℕ → Bool
begins_with_letter [] = false
begins_with_letter (octet ∷ octets) = is_ascii_alphabetic octet

abbrev pub name_in : List ℕ → Result (List ℕ) Fault
name_in word = if begins_with_letter word then Ok word else Err (no Name)

-- up or down
abbrev pub way_in : List ℕ → Result (List ℕ) Fault
way_in word =
    if bytes_eq word (codes "up") || bytes_eq word (codes "down") then Ok word else Err (no (Choice Way))

-- rx or tx
abbrev pub side_in : List ℕ → Result Side Fault
side_in word =
    if bytes_eq word (codes "rx") then Ok Receive else
    if bytes_eq word (codes "tx") then Ok Transmit else
    Err (no (Choice OfSides))

-- again or all
abbrev pub which_in : List ℕ → Result Which Fault
which_in word =
    if bytes_eq word (codes "again") then Ok Again else
    if bytes_eq word (codes "all") then Ok All else
    Err (no (Choice More))

-- on or off
abbrev pub switch_in : List ℕ → Result Bool Fault
switch_in word =
    if bytes_eq word (codes "on") then Ok true else
    if bytes_eq word (codes "off") then Ok false else
    Err (no (Choice Switch))
