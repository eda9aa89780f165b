-- What a line asks of a driver tells of memory.
use Rattle.std.proofs.Common.{◌≡◌, ◌∙◌, ◌&&◌, ◌==◌, ℕ, ◌≤◌, nat_le, Bool, true, false, cond, List, [], length, Option, Some, None, ap}
use Rattle.std.proofs.Common.{refl, sym}
use Rattle.std.proofs.Common.{inl, inr, arith}
use Rattle.std.specs.Prelude.{unwrap_or}
use Rattle.em_driver.specs.World.{World}
use Rattle.em_driver.specs.Course.{done, Follows}
use Rattle.em_driver.specs.Play.{Played, Tells, TellsApart}
use Rattle.em_driver.specs.Answering.{answering}
use Rattle.em_driver.specs.HappenedCall.{Happens}
use Rattle.em_driver.specs.TellsMemory.{start_says, batch_says}
use Rattle.em_driver.specs.Start.{start as start_of}
use Rattle.em_driver.specs.Receive.{rx_batch}
use Rattle.em_driver.specs.Transmit.{tx_batch}
use Rattle.em_driver.specs.Calls.{read_stats, get_mac_addr, set_mac_addr}
use Rattle.em_driver.specs.Receive.{Answered}
use Rattle.em_driver.specs.Driven.{IsGoodFor}
use Rattle.em_driver.specs.Layout.{IsCount, IsGoodLayout}
use Rattle.em_driver.specs.declared.outcome.Cause.{Cause}
use Rattle.std.proofs.lemmas.Bool.{le-leb}
use Rattle.std.proofs.lemmas.Bool.Decides.{nat_tests}
use Rattle.em_driver.specs.declared.stats.DeviceStats.{DeviceStats}
use Rattle.em_driver.proofs.course.MappedAnswers.{answering_tells, answering_follows}
use Rattle.em_driver.proofs.course.HappenedCalls.{call_happens, unplanned_fed}
use Rattle.em_driver.proofs.course.TellsOfMemory.{start_tells, rx_batch_tells, tx_batch_tells, get_mac_addr_tells}
use Rattle.em_driver.proofs.course.TellsOfMemory.{set_mac_addr_tells, read_stats_tells}
use Rattle.em_driver.specs.declared.outcome.Cause.TheVariants as cause
use Rattle.em_script.specs.Session.{Session}
use Rattle.em_line.specs.Request.{Request, starts, sends, receives, stats, address, sets_address}
use Rattle.em_script.specs.DriverAnswer as answers
use Rattle.em_script.specs.DriverAnswer.{DriverAnswer, says_memory, call_text}
use Rattle.em_script.specs.ScriptText.{SaysMemory}
use Rattle.em_script.specs.Calling.{holds_init, init_layout, no_stats, course_of, world_at, CanBeDone}
use Rattle.em_script.proofs.DriverAnswerLemmas.{call_says}

tells_done : (answer : DriverAnswer) → Tells says_memory (done answer)
unfolding TellsApart
tells_done answer = tt

init_tells : (b : Bool) → Tells says_memory (cond b
    (answering (λ answer. answers.start answer) (start_of init_layout)) (done (answers.start (Some cause.Layout))))
init_tells true = answering_tells (λ answer. answers.start answer) says_memory (start_of init_layout)
    (start_tells (λ answer. start_says answer) init_layout)
init_tells false = tells_done (answers.start (Some cause.Layout))

pub request_tells : (request : Request) (w : World) → Tells says_memory (course_of request w)
request_tells starts w = init_tells (holds_init w.machine.present.base (length w.machine.present.memory))
request_tells (sends packets) w =
    answering_tells (λ answer. answers.batch [] answer.1) says_memory (tx_batch init_layout 0 packets)
    (tx_batch_tells (λ answer. batch_says answer) init_layout 0 packets)
request_tells (receives most) w =
    answering_tells (λ answer. answers.batch answer.0 answer.1) says_memory (rx_batch init_layout 0 most [])
    (rx_batch_tells init_layout 0 most [])
request_tells stats w =
    answering_tells (λ answer. answers.stats answer) says_memory (read_stats no_stats)
    (read_stats_tells (λ answer. false) (λ answer. false) no_stats)
request_tells address w =
    answering_tells (λ answer. answers.address answer) says_memory get_mac_addr
    (get_mac_addr_tells (λ answer. false) (λ answer. false))
request_tells (sets_address octets) w =
    answering_tells (λ answer. answers.set) says_memory (set_mac_addr octets)
    (set_mac_addr_tells (λ answer. false) (λ answer. false) octets)

-- whatever was done to a request can be named
pub request_happens : (request : Request) (w v : World) (events : ℕ) (answer : DriverAnswer)
    → Follows w (course_of request w) events answer v → w.spared ≡ None
    → Happens says_memory w (course_of request w) (record { events = events; answer = answer; world = v })
request_happens request w v events answer follows alone =
    call_happens says_memory (course_of request w) w v events answer (request_tells request w) follows alone

-- what is named says so
pub named_says : (named : Played DriverAnswer) (request : Request) (session : Session)
    → CanBeDone (Some named) request session → SaysMemory (call_text session.plan named)
named_says named request session can =
    let w = world_at session in
    call_says session.plan named
    (λ none. unplanned_fed (course_of request w) w named.world named.events named.answer can.0
    (ap (λ plan. unwrap_or plan []) none))
    can.1

-- ---- calls whose answers are put as answers

-- nothing was counted
pub is_no_stats : (s : DeviceStats) → s.rx_pkts ≡ 0 → s.tx_pkts ≡ 0 → s.rx_bytes ≡ 0 → s.tx_bytes ≡ 0 → s ≡ no_stats
is_no_stats s a b c d = four s.rx_pkts s.tx_pkts s.rx_bytes s.tx_bytes a b c d
  where
    four : (rx tx received sent : ℕ) → rx ≡ 0 → tx ≡ 0 → received ≡ 0 → sent ≡ 0
        → record { rx_pkts = rx; tx_pkts = tx; rx_bytes = received; tx_bytes = sent } ≡ no_stats
    four rx tx received sent a b c d = rw (a, b, c, d) refl

pub counted : (w v : World) (now : DeviceStats) → Follows w (read_stats no_stats) 6 now v
    → Follows w (course_of stats w) 6 (answers.stats now) v
counted w v now follows = answering_follows (λ answer. answers.stats answer) (read_stats no_stats) w v 6 now follows

pub received : (w v : World) (most events : ℕ) (answer : Answered) → Follows w (rx_batch init_layout 0 most []) events
    answer v
    → Follows w (course_of (receives most) w) events (answers.batch answer.0 answer.1) v
received w v most events answer follows =
    answering_follows (λ (a : Answered). answers.batch a.0 a.1) (rx_batch init_layout 0 most []) w v events answer
    follows

pub sent : (w v : World) (packets : List (List ℕ)) (events : ℕ) (answer : Answered)
    → Follows w (tx_batch init_layout 0 packets) events answer v
    → Follows w (course_of (sends packets) w) events (answers.batch [] answer.1) v
sent w v packets events answer follows =
    answering_follows (λ (a : Answered). answers.batch [] a.1) (tx_batch init_layout 0 packets) w v events answer
    follows

pub told_address : (w v : World) (octets : List ℕ) → Follows w get_mac_addr 2 octets v
    → Follows w (course_of address w) 2 (answers.address octets) v
told_address w v octets follows =
    answering_follows (λ answer. answers.address answer) get_mac_addr w v 2 octets follows

pub set_address : (w v : World) (octets : List ℕ) → Follows w (set_mac_addr octets) 2 tt v
    → Follows w (course_of (sets_address octets) w) 2 answers.set v
set_address w v octets follows = answering_follows (λ answer. answers.set) (set_mac_addr octets) w v 2 tt follows

-- ---- a start

-- the memory in which the layout of a line is good
both : (a b : Bool) → (a && b) ≡ true → (a ≡ true) × (b ≡ true)
both true b is = (refl, is)
both false b is = cc

good_memory : (base end : ℕ) → holds_init base end ≡ true → IsGoodLayout base end init_layout
good_memory base end holds =
    let tests = both (base == 0) (nat_le 0x9000 end) holds in
    let zero : base ≡ 0 = grind (arith, nat_tests) in
    let le : 0x9000 ≤ end = grind (arith, nat_tests) in
    let eight : IsCount 8 = record { eights = refl; least = omega arith; most = omega arith } in
    record {
      receive = record {
        count = eight;
        aligned = refl;
        inside = record {
          ring_from = omega (arith, zero);
          ring = omega (arith, le);
          buffers_from = omega (arith, zero);
          buffers = omega (arith, le);
        };
        apart = inl (omega arith);
      };
      transmit = record {
        count = eight;
        aligned = refl;
        inside = record {
          ring_from = omega (arith, zero);
          ring = omega (arith, le);
          buffers_from = omega (arith, zero);
          buffers = omega (arith, le);
        };
        apart = inl (omega arith);
      };
      disjoint = record {
        rings = inl (omega arith);
        buffers = inl (omega arith);
        first_ring = inl (omega arith);
        second_ring = inl (omega arith);
      };
    }

good_layout : (base end : ℕ) → IsGoodLayout base end init_layout → holds_init base end ≡ true
good_layout base end good =
    let zero : base ≡ 0 = omega (arith, good.receive.inside.ring_from) in
    let le : 0x9000 ≤ end = omega (arith, good.transmit.inside.buffers) in
    let first : (base == 0) ≡ true = grind (arith, nat_tests) in
    ap (λ b. b && nat_le 0x9000 end) first ∙ le-leb 0x9000 end le

-- a start on a memory that is large enough
on_good : (w v : World) (events : ℕ) (answer : Option Cause)
    → holds_init w.machine.present.base (length w.machine.present.memory) ≡ true
    → Follows w (start_of init_layout) events answer v → Follows w (course_of starts w) events (answers.start answer) v
on_good w v events answer holds follows =
    rw holds
    (answering_follows (λ a. answers.start a) (start_of init_layout) w v events answer follows)

-- a driver was started
pub started : (w v : World) (events : ℕ) → IsGoodFor w.machine.present init_layout
    → Follows w (start_of init_layout) events None v → Follows w (course_of starts w) events (answers.start None) v
started w v events good follows = on_good w v events None (good_layout _ _ good) follows

-- nothing was done
nothing : (w v : World) (events : ℕ) (answer answered : DriverAnswer) → answered ≡ answer → events ≡ 0 → v ≡ w
    → Follows w (done answer) events answered v
unfolding Follows
nothing w v events answer answered same none left = record { events_are = none; answer_is = same; world_is = left }

-- a start stopped, or found too little memory for the layout
pub not_started : (w v : World) (events : ℕ) (why : Cause)
    → ((IsGoodFor w.machine.present init_layout → ⊥)
    → (why ≡ cause.Layout) × (events ≡ 0) × (v ≡ w))
    → (IsGoodFor w.machine.present init_layout
    → Follows w (start_of init_layout) events (Some why) v)
    → Follows w (course_of starts w) events (answers.start (Some why)) v
not_started w v events why untouched stopped =
    by_test (holds_init w.machine.present.base (length w.machine.present.memory)) refl
  where
    by_test : (b : Bool) → holds_init w.machine.present.base (length w.machine.present.memory) ≡ b
        → Follows w (course_of starts w) events (answers.start (Some why)) v
    by_test false is =
        let left = untouched (λ good. let not_so : false ≡ true = sym is ∙ good_layout _ _ good in cc) in
        rw is
        (nothing w v events (answers.start (Some cause.Layout)) (answers.start (Some why))
        (ap (λ c. answers.start (Some c)) left.0) left.1 left.2)
    by_test true is = on_good w v events (Some why) is (stopped (good_memory _ _ is))
