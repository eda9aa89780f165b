use Rattle.std.proofs.Common.{◌≡◌, ◌∙◌, false, sym}
use Rattle.em_prompt.specs.BenchLine.{plain, text_of}
use Rattle.em_debugger.specs.Performing.{looks_back}
use Rattle.em_debugger.proofs.PerformingLaws.{answered_line}
use Rattle.em_debugger.proofs.debugger.Debugger.perform_typed.Goals as goal

pub returns : goal.returns
returns g c =
    let old = c.args.self.now in
    let line = plain c.args.line in
    let is : looks_back old.tape line ≡ false = sym c.looks_back.ensures ∙ c.if-looks_back.false in
    let same : c.as_slice-text.result.now ≡ text_of line =
    c.as_slice-text.ensures.value ∙ (rw c.new-text.ensures.items at c.in_ok-write.ensures.writes) in
    record {
      ok = answered_line _ _ c.perform_new.result old c.perform_new.new.self line c.as_slice-text.result.now c.args.given.now is same
          c.perform_new.ensures.ok;
    }
