use Rattle.std.proofs.Common.{ℕ, ◌-◌, true, false, subst}
use Rattle.em_text.specs.Writer.{Writes}
use Rattle.em_debugger.specs.Place.{line_here}
use Rattle.em_debugger.specs.Moves.{behind_text, gone_text}
use Rattle.em_debugger.proofs.MovesLaws.{goes_behind}
use Rattle.em_debugger.proofs.debugger.Debugger.go_before_line.Goals as goal

pub returns-in-Ok-clause-goes : goal.returns-in-Ok-clause-goes
returns-in-Ok-clause-goes g c =
    let contents = g.W.Write.contents in
    let tape = c.to_line.new.self in (
      true,
      goes_behind c.args.self.now.tape tape (c.args.line - 1) c.saturating_sub-before.result
          c.saturating_sub-before.ensures c.in-Ok.ensures.ok,
      subst (λ (lines : ℕ). Writes (contents c.args.writer.now) (contents c.write_before.new.writer)
          c.write_before.result (gone_text tape (behind_text lines (line_here tape)) true))
          c.saturating_sub-before.ensures
          c.write_before.ensures.writes,
    )

pub returns-in-Err-clause-goes : goal.returns-in-Err-clause-goes
returns-in-Err-clause-goes g c = (false, c.in-Err.ensures.err, c.write_refused.ensures.writes)
