-- What a run leaves, by how it ended, also once what was written is flushed.
use Rattle.std.proofs.Common.{◌≡◌, ◌∙◌, ◌<◌, ◌⊎◌, ℕ, List, length, Option, Some, None, Result, Ok, Err}
use Rattle.std.proofs.Common.{inl, inr, refl}
use Rattle.std.specs.Prelude.{IfOk, IfSome, IsErrOf}
use Rattle.std.specs.Io.KnownBytes.{Appends, Keeps}
use Rattle.em_text.specs.Reader.{most_script}
use Rattle.em_script.specs.declared.fault.BenchFault.{BenchFault}
use Rattle.em_script.specs.declared.fault.BenchFault.TheVariants as fault
use Rattle.em_run.specs.declared.summary.Summary.{Summary}
use Rattle.em_script.specs.Session.{Session}
use Rattle.em_run.specs.Runner.{Answers, FailsInLine, ReadsWhole, StopsBeforeLine}
use Rattle.em_ending.specs.Playing.{Leaves}

-- the clauses of `run`, put together
pub leaves_of : (given rest : Option (List ℕ)) (first now : Session) (old new : Option (List ℕ))
    (ran : Result Summary BenchFault)
    → IfOk ran (λ summary. (script : List ℕ) × ReadsWhole given rest script × Answers script first now old new summary)
    → (IsErrOf ran fault.Read → (now ≡ first) × Keeps old new)
    → (IsErrOf ran fault.TooLarge → (now ≡ first) × Keeps old new
    × IfSome given (λ octets. most_script < length octets))
    → (IsErrOf ran fault.Memory → ((now ≡ first) × Keeps old new)
    ⊎ ((script : List ℕ) × ReadsWhole given rest script × StopsBeforeLine script first now old new))
    → (IsErrOf ran fault.Write → (script : List ℕ) × ReadsWhole given rest script
    × FailsInLine script first now old new)
    → Leaves given rest first now old new ran
leaves_of given rest first now old new (Ok summary) ok read large memory write = ok
leaves_of given rest first now old new (Err fault.Read) ok read large memory write = read refl
leaves_of given rest first now old new (Err fault.TooLarge) ok read large memory write = large refl
leaves_of given rest first now old new (Err fault.Memory) ok read large memory write = memory refl
leaves_of given rest first now old new (Err fault.Write) ok read large memory write = write refl

-- ---- octets that stay

appends_on : (old mid new : Option (List ℕ)) (text : List ℕ) → Appends old mid text → Keeps mid new
    → Appends old new text
appends_on None mid new text written kept = tt
appends_on (Some xs) None new text written kept = absurd written
appends_on (Some xs) (Some ys) None text written kept = absurd kept
appends_on (Some xs) (Some ys) (Some zs) text written kept = kept ∙ written

keeps_on : (old mid new : Option (List ℕ)) → Keeps old mid → Keeps mid new → Keeps old new
keeps_on None mid new first then = tt
keeps_on (Some xs) None new first then = absurd first
keeps_on (Some xs) (Some ys) None first then = absurd then
keeps_on (Some xs) (Some ys) (Some zs) first then = then ∙ first

answers_on : {script : List ℕ} {first now : Session} {summary : Summary} (old mid new : Option (List ℕ))
    → Answers script first now old mid summary → Keeps mid new → Answers script first now old new summary
answers_on old mid new a kept = record {
  all = a.all;
  played = a.played;
  written = appends_on old mid new _ a.written kept;
  session = a.session;
  count = a.count;
  run = a.run;
  fold = a.fold;
}

fails_on : {script : List ℕ} {first now : Session} (old mid new : Option (List ℕ))
    → FailsInLine script first now old mid → Keeps mid new → FailsInLine script first now old new
fails_on old mid new f kept = record {
  before = f.before;
  failed = f.failed;
  done = f.done;
  behind = f.behind;
  lines = f.lines;
  played = f.played;
  allowed = f.allowed;
  session = f.session;
  octets = f.octets;
  part = f.part;
  written = appends_on old mid new _ f.written kept;
}

stops_on : {script : List ℕ} {first now : Session} (old mid new : Option (List ℕ))
    → StopsBeforeLine script first now old mid → Keeps mid new → StopsBeforeLine script first now old new
stops_on old mid new s kept = record {
  before = s.before;
  line = s.line;
  done = s.done;
  behind = s.behind;
  lines = s.lines;
  octets = s.octets;
  played = s.played;
  session = s.session;
  written = appends_on old mid new _ s.written kept;
}

-- what a run left is there still
pub leaves_on : (given rest : Option (List ℕ)) (first now : Session) (old mid new : Option (List ℕ))
    (ran : Result Summary BenchFault) → Leaves given rest first now old mid ran → Keeps mid new
    → Leaves given rest first now old new ran
leaves_on given rest first now old mid new (Ok summary) (script, reads, answers) kept =
    (script, reads, answers_on old mid new answers kept)
leaves_on given rest first now old mid new (Err fault.Read) (same, stays) kept =
    (same, keeps_on old mid new stays kept)
leaves_on given rest first now old mid new (Err fault.TooLarge) (same, stays, large) kept =
    (same, keeps_on old mid new stays kept, large)
leaves_on given rest first now old mid new (Err fault.Memory) (inl (same, stays)) kept =
    inl (same, keeps_on old mid new stays kept)
leaves_on given rest first now old mid new (Err fault.Memory) (inr (script, reads, stops)) kept =
    inr (script, reads, stops_on old mid new stops kept)
leaves_on given rest first now old mid new (Err fault.Write) (script, reads, fails) kept =
    (script, reads, fails_on old mid new fails kept)
