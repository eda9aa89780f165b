-- One step of the transmit engine.
use Rattle.std.specs.Prelude.{
  ◌≡◌,
  ◌⊎◌,
  ◌≤◌,
  ◌<◌,
  ℕ,
  ◌+◌,
  ◌&&◌,
  ◌||◌,
  nat_lt,
  not,
  Bool,
  List,
  [],
  ◌∷◌,
  ◌++◌,
  length,
  if◌then◌else◌,
  Option,
  Some,
  None,
  Result,
  Ok,
  Err,
  IsOk,
  IsTrue,
}
use Rattle.em_mem.specs.Memory.{LiesIn, leaves, part, put}
use Rattle.em_regs.specs.declared.profile.Profile.{Profile}
use Rattle.em_regs.specs.declared.setup.TxSetup.{TxSetup}
use Rattle.em_tx.specs.declared.answer.TxAnswer.{TxAnswer}
use Rattle.em_tx.specs.declared.answer.TxAnswer.TheVariants.{Idle, Fetched, Sent}
use Rattle.em_tx.specs.declared.refusal.TxRefusal.{TxRefusal}
use Rattle.em_tx.specs.declared.refusal.TxRefusal.TheVariants.{DmaRange, Extended, TooLong, Memory}
use Rattle.em_tx.specs.Cells.{Shown}
use Rattle.em_tx.specs.Control.{first, is_over, is_still}
use Rattle.em_tx.specs.Descriptor.{address, length_of, eop, rs, dext}
use Rattle.em_tx.specs.Frame.{frame, kind_sent}
use Rattle.em_tx.specs.Ring.{place, next, causes}
use Rattle.em_tx.specs.declared.control.TxControl.{TxControl}

-- the first cause that refuses the descriptor d, over gathered octets and memory from a base on; of a length of 0 the
-- address is not looked at
unfoldable pub refusal : Profile → ℕ → List ℕ → List ℕ → List ℕ → Option TxRefusal
refusal p base g m d =
    if dext d then Some Extended
    else if nat_lt 16380 (length g + length_of d) || is_over p (length_of d) then Some TooLong
    else if nat_lt 0 (length_of d) && leaves base m (address d) (length_of d) then Some DmaRange
    else None

-- a descriptor with no cause of a refusal
pub record Allows (base : ℕ) (g m d : List ℕ) : Type 0 where
  pub few : length g + length_of d ≤ 16380
  pub held : 0 < length_of d → LiesIn base m (address d) (length_of d)

-- gathered octets, and after them those that memory has in the descriptor's buffer
abbrev pub with_buffer : List ℕ → List ℕ → List ℕ → List ℕ
with_buffer g m d = g ++ part m (address d) (length_of d)

-- the same of what is shown
abbrev pub gather : Shown → List ℕ → List ℕ
gather s d = with_buffer s.gathered s.memory d

-- the memory, where RS asks for it with DD alone in the descriptor's status octet
abbrev pub report : ℕ → List ℕ → List ℕ → List ℕ
report at d m = if rs d then put m (at + 12) (1 ∷ []) else m

-- with EOP a frame is sent of n gathered octets, if there are any
abbrev pub sends : List ℕ → ℕ → Bool
sends d n = eop d && nat_lt 0 n

-- the octets stay gathered
abbrev pub fetch : TxSetup → List ℕ → Shown → List ℕ → TxAnswer × Shown
fetch q d s octets = (
  Fetched q.head (next q) (causes q d),
  record { gathered = octets; wire = s.wire; memory = report (place q) d s.memory },
)

-- a frame goes last to the wire, and nothing is gathered
abbrev pub send : TxSetup → List ℕ → Shown → List ℕ → TxAnswer × Shown
send q d s f = (
  Sent q.head (next q) (causes q d) (length f) (kind_sent f),
  record { gathered = []; wire = s.wire ++ f ∷ []; memory = report (place q) d s.memory },
)

-- the descriptor d is handled
unfoldable pub handle : TxSetup → List ℕ → Shown → TxAnswer × Shown
handle q d s =
    let octets = gather s d in
    if sends d (length octets) then send q d s (frame q d octets) else fetch q d s octets

-- the refusal, or else the value
abbrev pub unless : {A : Type 0} → Option TxRefusal → A → Result A TxRefusal
unless None x = Ok x
unless (Some refused) x = Err refused

-- the answer and what is shown next, or the first cause of a refusal, where memory begins at a base
unfoldable pub transmit : TxControl → ℕ → Shown → Result (TxAnswer × Shown) TxRefusal
transmit q base s =
    if is_still q then Ok (Idle, s)
    else if leaves base s.memory (place q.setup) 16 then Err DmaRange
    else let d = first q s.memory in unless (refusal q.profile base s.gathered s.memory d) (handle q.setup d s)

-- what refuses a step: its first cause, or, where it has none and is not idle, the want of memory
abbrev pub Refuses : TxControl → ℕ → Shown → TxRefusal → Type 0
Refuses q base s refused =
    ((refused ≡ Memory) × IsTrue (not (is_still q)) × IsOk (transmit q base s)) ⊎ (transmit q base s ≡ Err refused)

-- what the handling of the descriptor d costs beyond the least
abbrev pub handling_cost : TxSetup → List ℕ → Shown → ℕ
handling_cost q d s =
    let octets = gather s d in
    length_of d + (if rs d then 1 else 0) + (if sends d (length octets) then length (frame q d octets) else 0)

-- what a step that is not refused costs beyond the least
abbrev pub cost : TxControl → Shown → ℕ
cost q s = if is_still q then 0 else handling_cost q.setup (first q s.memory) s

-- how many octets the frame has that the step sent, if it did
abbrev pub octets_sent : TxAnswer → ℕ
octets_sent (Sent index next causes octets kind) = octets
octets_sent answer = 0

-- a descriptor was handled
abbrev pub IsHandled : TxAnswer → Type 0
IsHandled Idle = ⊥
IsHandled answer = Unit {0}
