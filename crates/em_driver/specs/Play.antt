-- What a call of the driver does and answers where memory is refused nowhere: its course, played.
use Rattle.std.specs.Prelude.{◌≡◌, ℕ, ◌+◌, Bool, true, ◌||◌, if◌then◌else◌, List, Result, Ok, Err}
use Rattle.em_mem.specs.Memory.{leaves, part}
use Rattle.em_regs.specs.Table.{offset_of}
use Rattle.em_regs.specs.declared.reg.Reg.TheVariants.{Ctrl}
use Rattle.em_step.specs.Cost.{cost}
use Rattle.em_step.specs.Event.{Event, reads, writes, pokes}
use Rattle.em_step.specs.State.{State}
use Rattle.em_step.specs.Step.{step}
use Rattle.em_step.specs.declared.event.Answer.{Answer}
use Rattle.em_step.specs.declared.event.Answer.TheVariants.{Value}
use Rattle.em_step.specs.declared.refusal.Refusal.{Refusal}
use Rattle.em_step.specs.declared.refusal.Refusal.TheVariants.{Memory}
use Rattle.em_journal.specs.View.{after_event}
use Rattle.em_driver.specs.World.{World, present, after_turns, first, rest}
use Rattle.em_driver.specs.Course.{Course, done, read, write, reset, peek, poke, room}

-- how many events were performed, what was answered, and the world that was left
pub record Played (A : Type 0) : Type 0 where
  pub events : ℕ
  pub answer : A
  pub world : World

-- nothing more is performed
abbrev pub ended : {A : Type 0} → World → A → Played A
ended w a = record { events = 0; answer = a; world = w }

-- how many events an access performed
abbrev pub events_in : Result (Answer × State) Refusal → ℕ
events_in (Ok r) = 1
events_in (Err refusal) = 0

-- an access comes before all that
abbrev pub counted : {A : Type 0} → Result (Answer × State) Refusal → Played A → Played A
counted r played = record played { events = events_in r + played.events }

-- ---- an access

-- the others took the turns before it
abbrev pub passed : World → World
passed w = record (after_turns w (first w.plan)) { plan = rest w.plan }

-- the machine performed an event, where it was not refused
abbrev pub after_access : World → Event → Result (Answer × State) Refusal → World
after_access w e (Ok r) = record w { machine = after_event w.machine r.1 (cost (present w) e) }
after_access w e (Err refusal) = w

abbrev pub performed : World → Event → World
performed w e = after_access w e (step (present w) e)

-- the number that is read
abbrev pub value_in : Answer → ℕ
value_in (Value value) = value
value_in _ = 0

abbrev pub value_of : Result (Answer × State) Refusal → ℕ
value_of (Ok r) = value_in r.0
value_of (Err refusal) = 0

-- where memory is not written, the call answers so
abbrev pub unless_refused : {A : Type 0} → World → (Refusal → A) → Result (Answer × State) Refusal → Played A → Played A
unless_refused w stopped (Ok r) more = counted (Ok r) more
unless_refused w stopped (Err refusal) more = ended w (stopped refusal)

-- ---- a course

-- each access after the turns before it, and by the table
unfoldable pub play : {A : Type 0} → World → Course A → Played A
play w (done answer) = ended w answer
play w (read reg next) =
    let m = passed w in
    let e = reads (offset_of reg) in
    let r = step (present m) e in
    counted r (play (performed m e) (next (value_of r)))
play w (write reg value more) =
    let m = passed w in
    let e = writes (offset_of reg) value in
    counted (step (present m) e) (play (performed m e) more)
play w (reset stopped more) =
    let m = passed w in
    let e = writes (offset_of Ctrl) 0x0400_0000 in
    counted (step (present m) e) (play (performed m e) more)
play w (peek addr len stopped next) =
    let m = passed w in
    let memory = (present m).memory in
    if leaves (present m).base memory addr len then ended m stopped else play m (next (part memory addr len))
play w (poke addr octets stopped more) =
    let m = passed w in
    let e = pokes addr octets in
    unless_refused m stopped (step (present m) e) (play (performed m e) more)
play w (room stopped more) = play w more

-- ---- where memory is refused

-- Wherever memory is refused to a call with this course, its answer says so: by one test where the bus was refused it,
-- and by another where it was to be the call's own.
unfoldable pub TellsApart : {A : Type 0} → (A → Bool) → (A → Bool) → Course A → Type 0
TellsApart bus own (done answer) = Unit {0}
TellsApart bus own (read reg next) = (value : ℕ) → TellsApart bus own (next value)
TellsApart bus own (write reg value more) = TellsApart bus own more
TellsApart bus own (reset stopped more) = (bus stopped ≡ true) × TellsApart bus own more
TellsApart bus own (peek addr len stopped next) = (octets : List ℕ) → TellsApart bus own (next octets)
TellsApart bus own (poke addr octets stopped more) = (bus (stopped Memory) ≡ true) × TellsApart bus own more
TellsApart bus own (room stopped more) = (own stopped ≡ true) × TellsApart bus own more

-- by one test for both
abbrev pub Tells : {A : Type 0} → (A → Bool) → Course A → Type 0
Tells says course = TellsApart says says course

-- Memory was refused, to the call or to a turn: the answer says so, or the world that is left does.
abbrev pub wants_memory : {A : Type 0} → (A → Bool) → A → World → Bool
wants_memory says answer v = says answer || v.starved
