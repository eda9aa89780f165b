use Rattle.std.proofs.Common.{◌++◌, refl, sym, ap}
use Rattle.std.specs.Prelude.{Option}
use Rattle.std.proofs.lemmas.Result.{MatchResult-from_err}
use Rattle.em_text.proofs.WritingLemmas.{Writes-more, WritesPart-front}
use Rattle.em_reasons.specs.declared.refused.Bounds.{Bounds}
use Rattle.em_reasons.specs.Refused.{memory_of}
use Rattle.em_reasons.specs.RefusedText.{memory_text, reason_text}
use Rattle.em_reasons.proofs.refused_text.write_refused.Goals as goal

pub returns-in_err-write_reason : goal.returns-in_err-write_reason
returns-in_err-write_reason g c =
    record {
      writes = MatchResult-from_err _ _ _ c.from_residual.ensures.0 (λ _.
          WritesPart-front (memory_text (memory_of c.args.reason)) c.in_err-write_reason.ensures.writes refl);
    }

pub returns : goal.returns
returns g c =
    record {
      writes = Writes-more _ _ _ _ (reason_text c.args.reason) (memory_text c.memory.result) _
          c.in_ok-write_reason.ensures.writes c.write_memory.ensures.writes
          (ap (λ (m : Option Bounds). reason_text c.args.reason ++ memory_text m) (sym c.memory.ensures));
    }
