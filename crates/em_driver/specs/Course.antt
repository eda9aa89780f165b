-- What a call of the driver does, access by access, and what it answers: a course.
use Rattle.std.specs.Prelude.{◌≡◌, ◌⊎◌, ℕ, ◌+◌, List}
use Rattle.em_regs.specs.Table.{offset_of}
use Rattle.em_regs.specs.declared.reg.Reg.{Reg}
use Rattle.em_regs.specs.declared.reg.Reg.TheVariants.{Ctrl}
use Rattle.em_step.specs.Event.{reads, writes, pokes}
use Rattle.em_step.specs.declared.event.Answer.TheVariants.{Value, Done}
use Rattle.em_step.specs.declared.refusal.Refusal.{Refusal}
use Rattle.em_step.specs.declared.refusal.Refusal.TheVariants.{Memory}
use Rattle.em_driver.specs.World.{World, Accesses, IsRefused, Peeks, PeeksPast}

-- what comes next goes by what was read
pub data Course (A : Type 0) : Type 0 where
  -- the call answers
  done : A → Course A
  -- it reads a register
  read : Reg → (ℕ → Course A) → Course A
  -- it writes a register; no such write is refused
  write : Reg → ℕ → Course A → Course A
  -- it writes CTRL with RST; where memory is refused, it answers so
  reset : A → Course A → Course A
  -- it looks at so many octets from an address on, which is no event; where they leave memory, it answers so
  peek : ℕ → ℕ → A → (List ℕ → Course A) → Course A
  -- it writes octets to memory from an address on; where that is refused, it answers so
  poke : ℕ → List ℕ → (Refusal → A) → Course A → Course A
  -- it takes memory of its own; where that is refused, it answers so
  room : A → Course A → Course A

-- nothing more is performed, and this is answered
pub record Ends {A : Type 0} (w : World) (answer : A) (events : ℕ) (answered : A) (v : World) : Type 0 where
  pub events_are : events ≡ 0
  pub answer_is : answered ≡ answer
  pub world_is : v ≡ w

-- One event more: from w it leads to m, and what follows from there performs the others.
pub record Then (w : World) (events : ℕ) (leads : World → Type 0) (follows : World → ℕ → Type 0) : Type 0 where
  pub mid : World
  pub others : ℕ
  pub step : leads mid
  pub count : events ≡ 1 + others
  pub more : follows mid others

-- From the world w a call with this course performs so many events of its own, all of its course or those before it
-- stopped, gives this answer and leaves the world v.
unfoldable pub Follows : {A : Type 0} → World → Course A → ℕ → A → World → Type 0
Follows w (done answer) events answered v = Ends w answer events answered v
Follows w (read reg next) events answered v =
    (value : ℕ) × Then w events (λ m. Accesses w (reads (offset_of reg)) (Value value) m)
    (λ m others. Follows m (next value) others answered v)
Follows w (write reg value more) events answered v =
    Then w events (λ m. Accesses w (writes (offset_of reg) value) Done m)
    (λ m others. Follows m more others answered v)
Follows w (reset stopped more) events answered v =
    (IsRefused w (writes (offset_of Ctrl) 0x0400_0000) Memory v × (events ≡ 0) × (answered ≡ stopped))
    ⊎ Then w events (λ m. Accesses w (writes (offset_of Ctrl) 0x0400_0000) Done m)
    (λ m others. Follows m more others answered v)
Follows w (peek addr len stopped next) events answered v =
    (PeeksPast w addr len v × (events ≡ 0) × (answered ≡ stopped))
    ⊎ ((octets : List ℕ) × (m : World) × Peeks w addr len octets m × Follows m (next octets) events answered v)
Follows w (poke addr octets stopped more) events answered v =
    ((refusal : Refusal) × IsRefused w (pokes addr octets) refusal v × (events ≡ 0) × (answered ≡ stopped refusal))
    ⊎ Then w events (λ m. Accesses w (pokes addr octets) Done m)
    (λ m others. Follows m more others answered v)
Follows w (room stopped more) events answered v =
    Ends w stopped events answered v ⊎ Follows w more events answered v

-- The course from w has come to the rest from v, with so many events: whatever follows from there with the rest follows
-- from w with the whole.
unfoldable pub Comes : {A : Type 0} → World → Course A → ℕ → World → Course A → Type 0
Comes {A} w course events v rest =
    (others : ℕ) (answered : A) (u : World)
    → Follows v rest others answered u → Follows w course (events + others) answered u

-- a first part of a course was performed, whatever the rest is
abbrev pub Leads : {A : Type 0} → World → (Course A → Course A) → ℕ → World → Type 0
Leads {A} w part events v = (rest : Course A) → Comes w (part rest) events v rest
