-- What a word of a plan says.
use Rattle.std.specs.Prelude.{ℕ, ◌+◌, ◌==◌, nat_lt, Bool, if◌then◌else◌, List, length, take, drop, codes}
use Rattle.std.specs.Prelude.{Option, Some, None}
use Rattle.std.specs.List.{position_or_len}
use Rattle.std.specs.Str.{bytes_eq}
use Rattle.em_line.specs.Arguments as arguments
use Rattle.em_line.specs.Arguments.{Arguments, one, two}
use Rattle.em_line.specs.declared.turn_word.TurnWord.{TurnWord as Lent}
use Rattle.em_line.specs.declared.turn_word.TurnWord.TheVariants as lent

pub data TurnWord : Type 0 where
  -- no more turns before this access
  ends : TurnWord
  -- a step of the receive engine, and one of the transmit engine
  receives : TurnWord
  transmits : TurnWord
  -- a frame arrives, of DATA, or of DATA and LEN
  arrives : Arguments → TurnWord

-- a word of the code without where its octets lie in memory
abbrev pub plain : Lent → TurnWord
plain lent.End = ends
plain lent.RxStep = receives
plain lent.TxStep = transmits
plain (lent.Arrive behind) = arrives (arguments.plain behind)

abbrev pub is_colon : ℕ → Bool
is_colon octet = octet == 58

-- what stands before the first colon, and what behind it, if there is one
abbrev pub at_colon : List ℕ → Option (List ℕ × List ℕ)
at_colon text =
    let n = position_or_len is_colon text in
    if nat_lt n (length text) then Some (take n text, drop (n + 1) text) else None

-- DATA, or DATA:LEN
abbrev pub frame_parts : List ℕ → Option (List ℕ × List ℕ) → Arguments
frame_parts text None = one text
frame_parts text (Some parts) = two parts.0 parts.1

-- arrive:DATA, or arrive:DATA:LEN
abbrev pub arrival_word : Option (List ℕ × List ℕ) → Option TurnWord
arrival_word None = None
arrival_word (Some parts) =
    if bytes_eq parts.0 (codes "arrive") then Some (arrives (frame_parts parts.1 (at_colon parts.1))) else None

abbrev pub turn_word : List ℕ → Option TurnWord
turn_word word =
    if bytes_eq word (codes ".") then Some ends else
    if bytes_eq word (codes "rx") then Some receives else
    if bytes_eq word (codes "tx") then Some transmits else
    arrival_word (at_colon word)
