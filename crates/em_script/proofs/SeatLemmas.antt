-- Calls of a driver, from one session to the next.
use Rattle.std.proofs.Common.{◌≡◌, ◌∙◌, ℕ, ◌+◌, Bool, true, false, cond, List, [], Option, Some, None, refl, sym, ap}
use Rattle.em_journal.specs.View.{View}
use Rattle.em_turn.specs.declared.turn.Turn.{Turn}
use Rattle.em_driver.specs.World.{World, quiet}
use Rattle.em_driver.specs.Course.{Follows}
use Rattle.em_driver.specs.declared.layout.Layout.{Layout}
use Rattle.em_script.specs.Session.{Session}
use Rattle.em_script.specs.Seat.{IsReady, IsSeated, world_in, is_driven, session_of}
use Rattle.em_script.specs.declared.seat.Seat.{Seat}
use Rattle.em_script.specs.declared.seat.Seat.TheVariants.{Bare, Driven, Moved}
use Rattle.em_script.specs.declared.driver_reply.DriverReply.{DriverReply}
use Rattle.em_line.specs.Request.{Request}
use Rattle.em_script.specs.DriverAnswer.{plain, is_started, world_of}
use Rattle.em_script.specs.Calling.{course_of, world_at, plan_counts, after_call, did_of, IsCalled}

-- a call begins in the world that the seat holds
ready_world : (w : World) (planned : Bool) → IsReady w planned
    → world_of w.machine (cond planned (Some w.plan) None) ≡ w
ready_world w true ready = parts w.machine w.plan w.stored w.spared w.performed w.refused w.starved w.scarce
    ready.stored ready.spared ready.performed ready.refused ready.fed ready.scarce
  where
    parts : (machine : View) (plan : List (List Turn)) (stored : List (List ℕ)) (spared : Option Layout)
        (performed refused : ℕ) (starved scarce : Bool)
        → stored ≡ [] → spared ≡ None → performed ≡ 0 → refused ≡ 0 → starved ≡ false → scarce ≡ true
        → record (quiet machine) { plan = plan } ≡ record {
          machine = machine;
          stored = stored;
          plan = plan;
          spared = spared;
          performed = performed;
          refused = refused;
          starved = starved;
          scarce = scarce;
        }
    parts machine plan stored spared performed refused starved scarce a b c d e f = rw (a, b, c, d, e, f) refl
ready_world w false ready = parts w.machine w.plan w.stored w.spared w.performed w.refused w.starved w.scarce
    (ready.none refl) ready.stored ready.spared ready.performed ready.refused ready.fed ready.scarce
  where
    parts : (machine : View) (plan : List (List Turn)) (stored : List (List ℕ)) (spared : Option Layout)
        (performed refused : ℕ) (starved scarce : Bool)
        → plan ≡ [] → stored ≡ [] → spared ≡ None → performed ≡ 0 → refused ≡ 0 → starved ≡ false → scarce ≡ true
        → quiet machine ≡ record {
          machine = machine;
          stored = stored;
          plan = plan;
          spared = spared;
          performed = performed;
          refused = refused;
          starved = starved;
          scarce = scarce;
        }
    parts machine plan stored spared performed refused starved scarce p a b c d e f = rw (p, a, b, c, d, e, f) refl

seated_world : {M : Type 0} (seat : Seat M) (planned : Bool) (events : ℕ) → IsSeated seat planned
    → world_at (session_of seat planned events) ≡ world_in seat
seated_world (Bare turns) planned events seated = ready_world turns planned seated
seated_world (Driven driver) planned events seated = ready_world driver.bus planned seated.0
seated_world Moved planned events seated = absurd seated

-- the counts of a plan are told where one was set, whatever it was
counts_same : (planned : Bool) (p q : List (List Turn)) (w : World)
    → plan_counts (cond planned (Some p) None) w ≡ plan_counts (cond planned (Some q) None) w
counts_same true p q w = refl
counts_same false p q w = refl

abbrev session_with : View → Bool → Option (List (List Turn)) → ℕ → Session
session_with machine started plan events =
    record { machine = machine; started = started; plan = plan; events = events }

-- one whose machine is in this world
abbrev pub session_from : World → Bool → Bool → ℕ → Session
session_from w started planned events = session_with w.machine started (cond planned (Some w.plan) None) events

-- the session that a call leaves
left_session : {M : Type 0} (after : Seat M) (rest : Bool) (all : ℕ) (reply : DriverReply) (w : World) → rest ≡ false
    → is_driven after ≡ is_started (plain reply.answer) → world_in after ≡ quiet w.machine
    → all ≡ reply.events + w.performed → session_of after rest all ≡ after_call (did_of reply w)
left_session after rest all reply w none driven is count = parts (world_in after).machine w.machine (is_driven after)
    (is_started (plain reply.answer)) rest (world_in after).plan all (reply.events + w.performed)
    (ap (λ (v : World). v.machine) is) driven none count
  where
    parts : (m v : View) (a b rest : Bool) (plan : List (List Turn)) (n k : ℕ) → m ≡ v → a ≡ b → rest ≡ false
        → n ≡ k → session_with m a (cond rest (Some plan) None) n ≡ session_with v b None k
    parts m v a b rest plan n k e f g h = rw (e, f, g, h) refl

-- a call was made from a seat to a seat
pub is_called : {M : Type 0} (request : Request) (seat after : Seat M) (planned rest : Bool) (before all : ℕ) (first : Session)
    (turns w : World) (reply : DriverReply) → first ≡ session_of seat planned before → IsSeated seat planned
    → turns ≡ world_in seat
    → Follows turns (course_of request turns) reply.events (plain reply.answer) w
    → all ≡ reply.events + w.performed
    → reply.plan ≡ plan_counts (cond planned (Some []) None) w
    → is_driven after ≡ is_started (plain reply.answer) → world_in after ≡ quiet w.machine → rest ≡ false
    → IsCalled request first (session_of after rest all) reply
is_called request seat after planned rest before all first turns w reply is seated begins follows count counts driven
    left none =
    let same : world_at first ≡ turns = ap world_at is ∙ seated_world seat planned before seated ∙ sym begins in
    record {
      world = w;
      follows = rw same follows;
      plan = counts ∙ counts_same planned [] (world_in seat).plan w ∙ ap (λ (s : Session). plan_counts s.plan w)
          (sym is);
      session = left_session after rest all reply w none driven left count;
    }
