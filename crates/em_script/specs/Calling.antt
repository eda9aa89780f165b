-- What a line asks of a driver, what the driver then does, what is printed and what is left.
use Rattle.std.specs.Prelude.{◌≡◌, ℕ, ◌+◌, ◌==◌, ◌&&◌, nat_le, Bool, true, if◌then◌else◌, List, [], length, IsTrue}
use Rattle.std.specs.Prelude.{Option, Some, None}
use Rattle.em_driver.specs.World.{World}
use Rattle.em_journal.specs.History.{Call, Run}
use Rattle.em_driver.specs.Course.{Course, done, Follows}
use Rattle.em_driver.specs.CourseCalls.{course_calls}
use Rattle.em_turn.specs.declared.turn.Turn.{Turn}
use Rattle.em_driver.specs.Play.{Played}
use Rattle.em_driver.specs.Answering.{answering}
use Rattle.em_driver.specs.HappenedCall.{happened, CanHappen}
use Rattle.em_driver.specs.Start.{start as start_of}
use Rattle.em_driver.specs.Receive.{rx_batch}
use Rattle.em_driver.specs.Transmit.{tx_batch}
use Rattle.em_driver.specs.Calls.{read_stats, get_mac_addr, set_mac_addr}
use Rattle.em_driver.specs.declared.layout.Layout.{Layout}
use Rattle.em_driver.specs.declared.outcome.Cause.TheVariants as cause
use Rattle.em_driver.specs.declared.stats.DeviceStats.{DeviceStats}
use Rattle.em_script.specs.declared.outcome.Outcome.{Outcome}
use Rattle.em_script.specs.declared.outcome.Outcome.TheVariants.{Refused}
use Rattle.em_script.specs.declared.outcome.Refused.TheVariants.{NoDriver}
use Rattle.em_script.specs.Session.{Session}
use Rattle.em_line.specs.Request as request
use Rattle.em_line.specs.Request.{Request}
use Rattle.em_script.specs.DriverAnswer.{DriverAnswer, start, batch, stats, address, set, is_started}
use Rattle.em_script.specs.DriverAnswer.{driver_answer_outcome}
use Rattle.em_script.specs.DriverAnswer.{says_memory, world_of, call_text}
use Rattle.em_script.specs.DriverAnswer as answers
use Rattle.em_script.specs.DriverText.{no_driver_text}
use Rattle.em_script.specs.RefusedAt.{RefusedAt, before, within}
use Rattle.em_script.specs.declared.driver_reply.DriverReply.{DriverReply}
use Rattle.em_script.specs.declared.driver_reply.PlanCounts.{PlanCounts}

-- ---- what is asked

-- where init puts rings and buffers
abbrev pub init_layout : Layout
init_layout = record {
  rx_ring = 0x0;
  rx_count = 8;
  rx_buffers = 0x1000;
  tx_ring = 0x80;
  tx_count = 8;
  tx_buffers = 0x5000;
}

-- whether these lie in a memory that begins at a base, and ends there
abbrev pub holds_init : ℕ → ℕ → Bool
holds_init base end = base == 0 && nat_le 0x9000 end

abbrev pub init_course : ℕ → ℕ → Course DriverAnswer
init_course base end =
    if holds_init base end then answering (λ answer. start answer) (start_of init_layout)
    else done (start (Some cause.Layout))

abbrev pub no_stats : DeviceStats
no_stats = record { rx_pkts = 0; tx_pkts = 0; rx_bytes = 0; tx_bytes = 0 }

-- the course of a request to a driver over this world
abbrev pub course_of : Request → World → Course DriverAnswer
course_of request.starts w = init_course w.machine.present.base (length w.machine.present.memory)
course_of (request.sends packets) w = answering (λ answer. batch [] answer.1) (tx_batch init_layout 0 packets)
course_of (request.receives most) w =
    answering (λ answer. batch answer.0 answer.1) (rx_batch init_layout 0 most [])
course_of request.stats w = answering (λ answer. stats answer) (read_stats no_stats)
course_of request.address w = answering (λ answer. address answer) get_mac_addr
course_of (request.sets_address octets) w = answering (λ answer. set) (set_mac_addr octets)

-- a start needs no driver
abbrev pub has_driver : Request → Session → Bool
has_driver request.starts session = true
has_driver _ session = session.started

-- ---- what is done, by what is named where memory was refused

abbrev pub world_at : Session → World
world_at session = world_of session.machine session.plan

abbrev pub done_by : Option (Played DriverAnswer) → Request → Session → Played DriverAnswer
done_by named request session = happened named (world_at session) (course_of request (world_at session))

abbrev pub CanBeDone : Option (Played DriverAnswer) → Request → Session → Type 0
CanBeDone named request session = CanHappen says_memory named (world_at session) (course_of request (world_at session))

-- ---- what is printed and left; without a driver the plan stays

abbrev pub asked_text : Option (Played DriverAnswer) → Request → Session → List ℕ
asked_text named request session =
    if has_driver request session then call_text session.plan (done_by named request session) else no_driver_text

abbrev pub asked_outcome : Option (Played DriverAnswer) → Request → Session → Outcome
asked_outcome named request session =
    if has_driver request session then driver_answer_outcome (done_by named request session).answer else
    Refused NoDriver

abbrev pub after_call : Played DriverAnswer → Session
after_call did = record {
  machine = did.world.machine;
  started = is_started did.answer;
  plan = None;
  events = did.events + did.world.performed;
}

abbrev pub after_asked : Option (Played DriverAnswer) → Request → Session → Session
after_asked named request session =
    if has_driver request session then after_call (done_by named request session) else session

-- ---- the calls of the machine, by where memory was refused

abbrev pub made_calls : Option RefusedAt → Request → Session → List Call
made_calls (Some (within did calls)) request session = calls
made_calls _ request session = course_calls (world_at session) (course_of request (world_at session))

abbrev pub asked_calls : Option RefusedAt → Request → Session → List Call
asked_calls memory request session = if has_driver request session then made_calls memory request session else []

-- Memory is refused to a call of a driver as the call can have it; and the calls of the machine lead where it does.
abbrev pub MayBeRefusedAt : Option RefusedAt → Request → Session → Type 0
MayBeRefusedAt None request session = Unit {0}
MayBeRefusedAt (Some before) request session = ⊥
MayBeRefusedAt (Some (within did calls)) request session =
    IsTrue (has_driver request session) × CanBeDone (Some did) request session
    × Run session.machine calls did.world.machine

-- ---- a call, as the code makes it

-- how many turns of the plan were performed and refused, where one was set
abbrev pub plan_counts : Option (List (List Turn)) → World → Option PlanCounts
plan_counts None w = None
plan_counts (Some plan) w = Some record { performed = w.performed; refused = w.refused; starved = w.starved }

-- the call did so, and left this world
abbrev pub did_of : DriverReply → World → Played DriverAnswer
did_of reply w = record { events = reply.events; answer = answers.plain reply.answer; world = w }

-- what was asked for was done, and the plan is used up
pub record IsCalled (request : Request) (first now : Session) (reply : DriverReply) : Type 0 where
  pub world : World
  pub follows : Follows (world_at first) (course_of request (world_at first)) reply.events
      (answers.plain reply.answer) world
  pub plan : reply.plan ≡ plan_counts first.plan world
  pub session : now ≡ after_call (did_of reply world)
