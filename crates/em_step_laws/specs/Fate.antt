-- What becomes of a frame, each fate by conditions of its own.
use Rattle.std.specs.Prelude.{◌≡◌, ◌⊎◌, ℕ, ◌+◌, ◌<◌, ◌≤◌, Bool, true, false, List, length}
use Rattle.em_filter.specs.Filters.{longest, passes_address, passes_others}
use Rattle.em_rx.specs.Fifo.{HasRoom}
use Rattle.em_rx.specs.Frame.{len_of}
use Rattle.em_step.specs.Arrival.{is_enabled, kept_frame}
use Rattle.em_step.specs.State.{State}
use Rattle.em_step.specs.declared.event.Answer.{Answer}
use Rattle.em_step.specs.declared.event.Answer.TheVariants.{Done, Value, Stored, Dropped, Idle, Wrote, Fetched, Sent}
use Rattle.em_step.specs.declared.event.Reason.TheVariants.{Down, Disabled, Rejected, Undersize, Oversize, Missed}

-- the link is up and RCTL.EN set
abbrev pub Receives : State → Type 0
Receives s = (s.link ≡ true) × (is_enabled s ≡ true)

-- the address filter takes the frame, or not
abbrev pub IsAddressed : State → List ℕ → Bool → Type 0
IsAddressed s f whether = passes_address s.profile s.registers f ≡ whether

-- the frame with its check sequence has at least 64 octets and at most as many as RCTL allows
abbrev pub IsShort : List ℕ → Type 0
IsShort f = length f + 4 < 64

abbrev pub IsLong : State → List ℕ → Type 0
IsLong s f = longest s.profile s.registers < length f + 4

abbrev pub IsSized : State → List ℕ → Type 0
IsSized s f = (64 ≤ length f + 4) × (length f + 4 ≤ longest s.profile s.registers)

-- the other filters let it pass, or not: the VLAN filter, and those of the second profile
abbrev pub Passes : State → List ℕ → Bool → Type 0
Passes s f whether = passes_others s.profile s.registers f ≡ whether

-- the frame is received, but for the FIFO
abbrev pub IsTaken : State → List ℕ → Type 0
IsTaken s f = Receives s × IsAddressed s f true × IsSized s f × Passes s f true

-- the frame as it is stored has room in the FIFO
abbrev pub FindsRoom : State → List ℕ → Type 0
FindsRoom s f = HasRoom s.fifo (len_of (kept_frame s f))

-- when an arrival is answered so; no other answer is one of an arrival
abbrev pub IsFate : State → List ℕ → Answer → Type 0
IsFate s f (Dropped Down) = s.link ≡ false
IsFate s f (Dropped Disabled) = (s.link ≡ true) × (is_enabled s ≡ false)
IsFate s f (Dropped Rejected) =
    Receives s × (IsAddressed s f false ⊎ (IsAddressed s f true × IsSized s f × Passes s f false))
IsFate s f (Dropped Undersize) = Receives s × IsAddressed s f true × IsShort f
IsFate s f (Dropped Oversize) = Receives s × IsAddressed s f true × IsLong s f
IsFate s f (Dropped Missed) = IsTaken s f × (FindsRoom s f → ⊥)
IsFate s f Stored = IsTaken s f × FindsRoom s f
IsFate s f Done = ⊥
IsFate s f (Value v) = ⊥
IsFate s f Idle = ⊥
IsFate s f (Wrote index) = ⊥
IsFate s f (Fetched index) = ⊥
IsFate s f (Sent index octets) = ⊥
