-- A call to which memory was refused says so.
use Rattle.std.proofs.Common.{◌≡◌, ◌∙◌, ◌⊎◌, inl, inr, ℕ, Bool, true, false, ◌||◌, List, [], ◌++◌, Option, Some, None}
use Rattle.std.proofs.Common.{Ok, Err, refl, sym, ap, append_assoc}
use Rattle.std.specs.Prelude.{codes}
use Rattle.std.proofs.lemmas.Bool.{false≢true}
use Rattle.em_text.specs.Writer.{decimal_text, numbers_text}
use Rattle.em_turn.specs.declared.turn.Turn.{Turn}
use Rattle.em_driver.specs.World.{World}
use Rattle.em_driver.specs.Play.{Played, wants_memory}
use Rattle.em_driver.specs.TellsMemory.{is_memory}
use Rattle.em_driver.specs.declared.outcome.Cause.{Cause}
use Rattle.em_driver.specs.declared.outcome.Cause.TheVariants.{Memory, Layout, Checksum, Queue, PacketLength, Broken}
use Rattle.em_script.specs.ScriptText.{SaysMemory}
use Rattle.em_script.specs.DriverText.{stopped_text, turns_text}
use Rattle.em_script.specs.DriverAnswer.{DriverAnswer, start, batch, stats, address, set, says_memory}
use Rattle.em_script.specs.DriverAnswer.{driver_answer_text}
use Rattle.em_script.specs.DriverAnswer.{plan_text, call_text}

-- ---- texts that say it

-- more text behind it
pub says_before : (front behind : List ℕ) → SaysMemory front → SaysMemory (front ++ behind)
says_before front behind h =
    let word = codes " Memory\n" in (
      h.0,
      h.1 ++ behind,
      ap (λ l. l ++ behind) h.2 ∙ append_assoc (h.0 ++ word) h.1 behind,
    )

-- more text before it
pub says_behind : (front behind : List ℕ) → SaysMemory behind → SaysMemory (front ++ behind)
says_behind front behind h =
    let word = codes " Memory\n" in (
      front ++ h.0,
      h.1,
      ap (λ l. front ++ l) h.2 ∙ sym (append_assoc front (h.0 ++ word) h.1)
          ∙ ap (λ l. l ++ h.1) (sym (append_assoc front h.0 word)),
    )

says_here : SaysMemory (codes " Memory\n")
says_here = ([], [], refl)

numbers_say : (word : List ℕ) (a b : ℕ) (behind : List ℕ) → SaysMemory behind
    → SaysMemory (numbers_text word a b behind)
numbers_say word a b behind h =
    says_behind word _ (says_behind (decimal_text a) _
    (says_behind (codes " ") _ (says_behind (decimal_text b) behind h)))

stopped_says : (count events : ℕ) (cause : Cause) → is_memory cause ≡ true
    → SaysMemory (stopped_text count events cause)
stopped_says count events Memory h = numbers_say (codes "stopped ") count events (codes " Memory\n") says_here
stopped_says count events Layout h = absurd (false≢true h)
stopped_says count events Checksum h = absurd (false≢true h)
stopped_says count events Queue h = absurd (false≢true h)
stopped_says count events PacketLength h = absurd (false≢true h)
stopped_says count events Broken h = absurd (false≢true h)

-- ---- calls that say it

driver_answer_says : (events : ℕ) (answer : DriverAnswer) → says_memory answer ≡ true
    → SaysMemory (driver_answer_text events answer)
driver_answer_says events (start None) h = absurd (false≢true h)
driver_answer_says events (start (Some cause)) h = stopped_says 0 events cause h
driver_answer_says events (batch packets (Ok moved)) h = absurd (false≢true h)
driver_answer_says events (batch packets (Err stopped)) h =
    says_before _ _ (stopped_says stopped.count stopped.events stopped.cause h)
driver_answer_says events (stats counted) h = absurd (false≢true h)
driver_answer_says events (address octets) h = absurd (false≢true h)
driver_answer_says events set h = absurd (false≢true h)

turns_say : (performed refused : ℕ) (starved : Bool) → starved ≡ true
    → SaysMemory (turns_text performed refused starved)
turns_say performed refused true h = numbers_say (codes "turns ") performed refused (codes " Memory\n") says_here
turns_say performed refused false h = absurd (false≢true h)

by_plan : (plan : Option (List (List Turn))) (w : World) → (plan ≡ None → w.starved ≡ false) → w.starved ≡ true
    → SaysMemory (plan_text plan w)
by_plan None w fed starved = absurd (false≢true (sym (fed refl) ∙ starved))
by_plan (Some plan) w fed starved = turns_say w.performed w.refused w.starved starved

either : (a b : Bool) → (a || b) ≡ true → (a ≡ true) ⊎ (b ≡ true)
either true b h = inl refl
either false b h = inr h

-- where a turn can be refused memory only under a plan
pub call_says : (plan : Option (List (List Turn))) (did : Played DriverAnswer)
    → (plan ≡ None → did.world.starved ≡ false)
    → wants_memory says_memory did.answer did.world ≡ true → SaysMemory (call_text plan did)
call_says plan did fed wants =
    elim (either (says_memory did.answer) did.world.starved wants) [
      | inl says ↦
          says_before (driver_answer_text did.events did.answer) _ (driver_answer_says did.events did.answer says)
      | inr starved ↦ says_behind (driver_answer_text did.events did.answer) _ (by_plan plan did.world fed starved)
    ]
