-- An event again and again: until it is idle, or refused, or so many times.
use Rattle.std.specs.Prelude.{◌≡◌, ◌⊎◌, ℕ, Bool, true, false, ◌<◌, zero, suc, Option, Some, None}
use Rattle.em_step.specs.Event.{Event}
use Rattle.em_step.specs.Step.{Refuses}
use Rattle.em_step.specs.declared.event.Answer.{Answer}
use Rattle.em_step.specs.declared.event.Answer.TheVariants.{Idle}
use Rattle.em_step.specs.declared.refusal.Refusal.{Refusal}
use Rattle.em_c.specs.declared.refused.Refused.TheVariants.{NoMachine}
use Rattle.em_c.specs.declared.tagged.Tagged.{Tagged}
use Rattle.em_c.specs.Refused.{number_of, of_event}
use Rattle.em_c.specs.Tagged.{Performs, present_of}

-- an engine had nothing to do
abbrev pub is_idle : Answer → Bool
is_idle Idle = true
is_idle other = false

-- the event is performed k times, and never idle
abbrev pub Repeats : ℕ → Event → Tagged → Tagged → Type 0
Repeats zero event t u = u ≡ t
Repeats (suc k) event t u =
    (m : Tagged) × (answer : Answer) × Performs t event answer m × (is_idle answer ≡ false) × Repeats k event m u

-- after k times, fewer than n, it is refused
pub record IsRefusedAfter (k n : ℕ) (event : Event) (t u : Tagged) (refusal : Refusal) : Type 0 where
  pub fewer : k < n
  pub repeats : Repeats k event t u
  pub refuses : Refuses (present_of u) event refusal

-- after k times, fewer than n, it is idle
pub record IsIdleAfter (k n : ℕ) (event : Event) (t u : Tagged) : Type 0 where
  pub last : Tagged
  pub answer : Answer
  pub fewer : k < n
  pub repeats : Repeats k event t last
  pub performs : Performs last event answer u
  pub idle : is_idle answer ≡ true

-- it is performed n times, or idle after k
abbrev pub Ends : ℕ → ℕ → Event → Tagged → Tagged → Type 0
Ends k n event t u = ((k ≡ n) × Repeats n event t u) ⊎ IsIdleAfter k n event t u

-- what stopped it, if something refused it
abbrev pub Stops : ℕ → ℕ → Event → Tagged → Tagged → Option Refusal → Type 0
Stops k n event t u None = Ends k n event t u
Stops k n event t u (Some refusal) = IsRefusedAfter k n event t u refusal

-- the number that a call gives
abbrev pub number_of_stop : Option Refusal → ℕ
number_of_stop None = 0
number_of_stop (Some refusal) = number_of (of_event refusal)

-- the call, which tells how many times
abbrev pub Runs : Option Tagged → Event → ℕ → ℕ → ℕ → ℕ → Option Tagged → Type 0
Runs None event n old code new after = (code ≡ number_of NoMachine) × (new ≡ old) × (after ≡ None)
Runs (Some t) event n old code new after =
    (u : Tagged) × (stop : Option Refusal) × Stops new n event t u stop × (code ≡ number_of_stop stop)
    × (after ≡ Some u)
