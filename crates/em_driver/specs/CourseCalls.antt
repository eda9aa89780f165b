-- The calls of its machine that a course makes as it is played, with those of the turns before its accesses.
use Rattle.std.specs.Prelude.{◌+◌, if◌then◌else◌, List, [], ◌∷◌, ◌++◌, Result, Ok, Err}
use Rattle.em_mem.specs.Memory.{leaves, part}
use Rattle.em_regs.specs.Table.{offset_of}
use Rattle.em_regs.specs.declared.reg.Reg.TheVariants.{Ctrl}
use Rattle.em_step.specs.Event.{Event, reads, writes, pokes}
use Rattle.em_step.specs.State.{State}
use Rattle.em_step.specs.Step.{step}
use Rattle.em_step.specs.declared.event.Answer.{Answer}
use Rattle.em_step.specs.declared.refusal.Refusal.{Refusal}
use Rattle.em_journal.specs.History.{Call, performs, refuses}
use Rattle.em_turn.specs.Turn.{event_of}
use Rattle.em_turn.specs.declared.turn.Turn.{Turn}
use Rattle.em_driver.specs.World.{World, present, after_turn, first}
use Rattle.em_driver.specs.Course.{Course, done, read, write, reset, peek, poke, room}
use Rattle.em_driver.specs.Play.{passed, performed, value_of}

-- that of an event, by its step
abbrev pub call_of : Event → Result (Answer × State) Refusal → Call
call_of e (Ok r) = performs e r.0
call_of e (Err refusal) = refuses e refusal

abbrev pub access_call : World → Event → Call
access_call w e = call_of e (step (present w) e)

-- those of turns, one after the other
abbrev pub turns_calls : World → List Turn → List Call
turns_calls w [] = []
turns_calls w (t ∷ turns) = access_call w (event_of t) ∷ turns_calls (after_turn w t) turns

-- those of the turns before an access
abbrev pub passed_calls : World → List Call
passed_calls w = turns_calls w (first w.plan)

-- those of the turns before an access, of the access, and of what comes after it
abbrev pub access_calls : World → Event → List Call → List Call
access_calls w e more = passed_calls w ++ access_call (passed w) e ∷ more

-- nothing comes after a refused memory write
abbrev pub unless_refused : Result (Answer × State) Refusal → List Call → List Call
unless_refused (Ok r) more = more
unless_refused (Err refusal) more = []

unfoldable pub course_calls : {A : Type 0} → World → Course A → List Call
course_calls w (done answer) = []
course_calls w (read reg next) =
    let m = passed w in
    let e = reads (offset_of reg) in
    access_calls w e (course_calls (performed m e) (next (value_of (step (present m) e))))
course_calls w (write reg value more) =
    let e = writes (offset_of reg) value in
    access_calls w e (course_calls (performed (passed w) e) more)
course_calls w (reset stopped more) =
    let e = writes (offset_of Ctrl) 0x0400_0000 in
    access_calls w e (course_calls (performed (passed w) e) more)
course_calls w (peek addr len stopped next) =
    let m = passed w in
    let memory = (present m).memory in
    passed_calls w
    ++ (if leaves (present m).base memory addr len then [] else course_calls m (next (part memory addr len)))
course_calls w (poke addr octets stopped more) =
    let m = passed w in
    let e = pokes addr octets in
    access_calls w e (unless_refused (step (present m) e) (course_calls (performed m e) more))
course_calls w (room stopped more) = course_calls w more
