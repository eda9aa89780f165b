use Rattle.std.proofs.Common.{List, ℕ, Err, ◌≡◌, ◌⊎◌, inl, inr, [], length, arith, rules, ap, refl, ◌∙◌, Option}
use Rattle.std.proofs.lemmas.List.{nil_from_length}
use Rattle.em_text.specs.Lines.{lines_of}
use Rattle.em_text.proofs.LinesLemmas.{lines_of-nil}
use Rattle.em_script.specs.PlayedLine.{PlayedLine}
use Rattle.em_run.specs.Runner.{FailsInLine, StopsBeforeLine, StopsInScript}
use Rattle.em_script.specs.Session.{Session}
use Rattle.em_run.specs.Summary.{after_outcome}
use Rattle.em_script.specs.declared.fault.BenchFault.{BenchFault}
use Rattle.em_script.specs.declared.fault.BenchFault.TheVariants.{Memory, Read, TooLarge, Write}
use Rattle.em_run.proofs.RunLemmas.{Ran-more, Ran-all, Ran-fails, Ran-stops}
use Rattle.em_script.proofs.MemoryLemmas.{text_without_memory, text_with_memory}
use Rattle.em_script.proofs.CallLemmas.{all_run, run_is_fold}
use Rattle.em_run.proofs.runner.run_lines.Goals as goal

pub loop-rest-preserved : goal.loop-rest-preserved
loop-rest-preserved g c =
    let replied = c.in_ok-outcome.ensures.ok in
    let played : PlayedLine = record { line = c.next_line.result.0.now; refused = replied.memory } in
    let printed = replied.prints in
    record {
      ran = Ran-more played c.loop-rest.invariant.ran c.next_line.ensures.lines replied.allowed replied.session
          printed.written (c.count.ensures.value ∙ ap (after_outcome c.loop-rest.summary) printed.ended);
      bad = c.count.ensures.bad;
      refused = c.count.ensures.refused;
      few = omega (arith, c.count.ensures.lines);
      room = omega (arith, c.next_line.ensures.shorter);
    }

-- a line that was not played stopped for want of memory, or at the writer
stopped : {script : List ℕ} {first now : Session} {old new : Option (List ℕ)} (fault : BenchFault)
    → (fault ≡ Write) ⊎ (fault ≡ Memory) → (fault ≡ Write → FailsInLine script first now old new)
    → (fault ≡ Memory → StopsBeforeLine script first now old new) → StopsInScript script first now old new fault
stopped Write only write memory = write refl
stopped Memory only write memory = memory refl
stopped Read (inl is) write memory = cc
stopped Read (inr is) write memory = cc
stopped TooLarge (inl is) write memory = cc
stopped TooLarge (inr is) write memory = cc

-- no line is left
none_left : (rest : List ℕ) → length rest ≡ 0 → lines_of rest ≡ []
none_left rest e = ap lines_of (nil_from_length rest e) ∙ lines_of-nil

pub returns-clause-ok : goal.returns-clause-ok
returns-clause-ok g c =
    let ran = c.loop-rest.invariant.ran in
    let played = Ran-all ran (none_left _ (search rules)) in
    let run = rw (← ran.session) at (all_run ran.before c.args.session.now played.allowed) in
    record {
      all = ran.before;
      played = played;
      written = ran.written;
      session = ran.session;
      count = ran.count;
      run = run;
      fold = run_is_fold ran.before c.args.session.now c.loop-rest.session run;
    }

pub returns-clause-text : goal.returns-clause-text
returns-clause-text g c =
    let ran = c.loop-rest.invariant.ran in
    text_without_memory _ _ c.args.script.now (Ran-all ran (none_left _ (search rules))) ran.written

pub returns-clause-full : goal.returns-clause-full
returns-clause-full g c = λ written.
    let ran = c.loop-rest.invariant.ran in
    text_with_memory _ _ c.args.script.now written (Ran-all ran (none_left _ (search rules))) ran.written

pub returns-in_err-outcome-clause-err : goal.returns-in_err-outcome-clause-err
returns-in_err-outcome-clause-err g c =
    let ran = c.loop-rest.invariant.ran in
    let why = c.in_err-outcome.ensures in
    let write : c.in_err-outcome.field-0.0 ≡ Write → FailsInLine c.args.script.now c.args.session.now c.play.new.session
    (g.W.Write.contents c.args.writer.now) (g.W.Write.contents c.play.new.writer)
    = λ is.
    let failed = why.write (ap (λ y. Err y) is) in
    let did = failed.1 in
    let line : PlayedLine = record { line = c.next_line.result.0.now; refused = did.memory } in
    Ran-fails c.args.script.now line ran c.next_line.ensures.lines did.allowed did.session did.prints.written in
    let memory : c.in_err-outcome.field-0.0 ≡ Memory → StopsBeforeLine c.args.script.now c.args.session.now
    c.play.new.session (g.W.Write.contents c.args.writer.now) (g.W.Write.contents c.play.new.writer)
    = λ is.
    let none = why.memory (ap (λ y. Err y) is) in
    Ran-stops c.args.script.now c.next_line.result.0.now ran c.next_line.ensures.lines none.0 none.1 none.2 in
    let stops = stopped c.in_err-outcome.field-0.0 why.only write memory in
    search (rules, stops)

pub play-requires : goal.play-requires
play-requires g c =
    omega (arith, c.next_line.ensures.within, c.requires, c.loop-rest.invariant.few, c.loop-rest.invariant.room)
