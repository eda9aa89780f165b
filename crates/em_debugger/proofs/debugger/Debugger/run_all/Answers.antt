use Rattle.std.proofs.Common.{refl}
use Rattle.std.proofs.lemmas.Result.{MatchResult-from_err}
use Rattle.em_text.proofs.WritingLemmas.{Writes-more, WritesPart-front, WritesPart-more}
use Rattle.em_debugger.specs.Played.{ended_text}
use Rattle.em_debugger.proofs.debugger.Debugger.run_all.Goals as goal

pub returns : goal.returns
returns g c = (
  c.play_all-fault.result.0,
  c.play_all-fault.result.1,
  c.play_all-fault.ensures,
  rw (c.behind_here-first.ensures.line, c.behind_here.ensures.line) at
      (Writes-more _ _ _ _ _ _ _ c.in_ok-write_played.ensures.writes
      (Writes-more _ _ _ _ _ _ _ c.in_ok-write_summary.ensures.writes c.write_ended.ensures.writes refl) refl),
)

pub returns-in_err-write_played : goal.returns-in_err-write_played
returns-in_err-write_played g c = (
  c.play_all-fault.result.0,
  c.play_all-fault.result.1,
  c.play_all-fault.ensures,
  MatchResult-from_err _ _ _ c.from_residual.ensures.0 (λ _.
      WritesPart-front _ c.in_err-write_played.ensures.writes refl),
)

pub returns-in_err-write_summary : goal.returns-in_err-write_summary
returns-in_err-write_summary g c = (
  c.play_all-fault.result.0,
  c.play_all-fault.result.1,
  c.play_all-fault.ensures,
  MatchResult-from_err _ _ _ c.from_residual-in_err-write_summary.ensures.0 (λ _.
      rw (c.behind_here-first.ensures.line, c.behind_here.ensures.line) at
      (WritesPart-more _ c.in_ok-write_played.ensures.writes
      (WritesPart-front (ended_text c.play_all-fault.result.1) c.in_err-write_summary.ensures.writes refl) refl)),
)
