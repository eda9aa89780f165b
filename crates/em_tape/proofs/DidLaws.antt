-- What a line did, by what is seen of it.
use Rattle.std.proofs.Common.{◌≡◌, ℕ, ◌-◌, ◌≤◌, Bool, true, false, List, [], ◌∷◌, length, Option, Some, None, Result, Ok, Err}
use Rattle.std.proofs.Common.{refl, sym, ap, ◌∙◌, subst, inr, arith}
use Rattle.std.specs.Prelude.{min, IsErrOf}
use Rattle.em_text.specs.declared.writer.WriteFailed.{WriteFailed}
use Rattle.em_step.specs.State.{State}
use Rattle.em_journal.specs.View.{View, after_back, after_backs}
use Rattle.em_journal.proofs.BackLaws.{past_left}
use Rattle.em_line.specs.Command.{back, back_by}
use Rattle.em_line.specs.Grammar.{parsed_line}
use Rattle.em_line.specs.ParsedLine.{ParsedLine, bad, says}
use Rattle.em_script.specs.declared.outcome.Outcome.{Outcome}
use Rattle.em_script.specs.declared.outcome.Outcome.TheVariants.{Done}
use Rattle.em_script.specs.Reply.{IsAllowed, after_line, back_call, call_reply, line_outcome}
use Rattle.em_script.specs.RefusedAt.{RefusedAt}
use Rattle.em_script.specs.Session.{Session}
use Rattle.em_script.specs.declared.fault.BenchFault.{BenchFault}
use Rattle.em_script.specs.declared.fault.BenchFault.TheVariants.{Write}
use Rattle.em_named.specs.declared.did.Did.{Did}
use Rattle.em_named.specs.declared.did.Did.TheVariants.{TookBack}
use Rattle.em_script.specs.Did.{did_of}
use Rattle.em_tape.specs.Did.{IsSeen, done_in}
use Rattle.em_tape.specs.Kind.{SaysBack}
use Rattle.em_tape.specs.Moves.{IsPlayed}
use Rattle.em_tape.specs.declared.known.Known.TheVariants.{Other}
use Rattle.em_tape.specs.Replied.{replied_of}
use Rattle.em_tape.specs.declared.did.Seen.{Seen}

back_one : (l : List State) (v : View) → v.past ≡ l → length (call_reply (back_call l) v).machine.past ≡ length v.past - 1
back_one [] v is =
    let none = ap length is in
    omega (arith, none)
back_one (s ∷ older) v is = past_left 1 v (after_back v) refl

-- steps back, as many as the journal's reach went back
pub back_did : (done : Bool) (memory : Option RefusedAt) (parsed : ParsedLine) (from : Session) (seen : Seen) (d : Did)
    → SaysBack parsed → done_in (line_outcome memory parsed from) ≡ Some done → IsSeen seen memory parsed from
    → ((took : ℕ) → took ≡ seen.before - seen.after → took ≤ 65536 → d ≡ TookBack took)
    → d ≡ did_of memory parsed from
back_did true memory bad from seen d kind out is took = absurd (cc)
back_did false memory bad from seen d kind out is took = absurd (cc)
back_did done memory (says back) from seen d kind out is took =
    let left = back_one from.machine.past from.machine refl in
    took (min 1 (length from.machine.past)) (omega (arith, left, is.before, is.after)) (omega arith)
back_did done memory (says (back_by most)) from seen d kind out is took =
    let left = past_left most from.machine (after_backs most from.machine) refl in
    took (min most (length from.machine.past)) (omega (arith, left, is.before, is.after)) (omega (arith, kind))
back_did done memory _ from seen d kind out is took = absurd kind

-- a line that came out so was played so
pub replied_ok : (r : Result Outcome BenchFault) (o : Outcome) → replied_of r ≡ Some (Ok o) → r ≡ Ok o
replied_ok (Ok p) o is = cc
replied_ok (Err Write) o is = absurd (cc)
replied_ok (Err fault) o is = absurd (cc)

-- a line whose text could not be written was played so
pub replied_failed : (r : Result Outcome BenchFault) (failed : WriteFailed) → replied_of r ≡ Some (Err failed) → IsErrOf r Write
replied_failed (Ok p) failed is = absurd (cc)
replied_failed (Err Write) failed is = refl
replied_failed (Err fault) failed is = absurd (cc)

-- a line that takes n events back, by its steps alone
pub took_line : (number : ℕ) (line : List ℕ) (n : ℕ) (from now : Session) → parsed_line line ≡ says (back_by n)
    → n ≤ length from.machine.past → now ≡ record from { machine = after_backs n from.machine }
    → IsPlayed number line from now None None (record { replied = Ok Done; did = TookBack n; known = Other })
took_line number line n from now said reach is =
    let all : n ≡ min n (length from.machine.past) = omega (arith, reach) in
    record {
      performs = record {
        memory = None;
        allowed = subst (λ p. IsAllowed None p from) (sym said) tt;
        prints = record { written = tt; ended = sym (ap (λ p. line_outcome None p from) said) };
        session = is ∙ sym (ap (λ p. after_line None p from) said);
      };
      did = inr (ap TookBack all ∙ sym (ap (λ p. did_of None p from) said));
      few = omega arith;
      known = tt;
    }
