use Rattle.std.proofs.Common.{◌≡◌, ◌+◌, ◌∙◌, ℕ, Option, None, subst, sym}
use Rattle.em_text.specs.Writer.{Writes}
use Rattle.em_debugger.specs.Place.{line_here}
use Rattle.em_debugger.specs.Warned.{first_said, warned_from}
use Rattle.em_debugger.proofs.debugger.Debugger.list_warnings.Goals as goal

pub returns-in-None : goal.returns-in-None
returns-in-None g c =
    let d = c.args.self.now in
    let end = line_here d.tape + 1 in
    let contents = g.W.Write.contents in
    let none : first_said d 1 end ≡ None =
    sym (rw c.behind_here-end.ensures.line at c.first_said.ensures) ∙ c.in-None.is in
    record {
      writes = subst (λ (first : Option ℕ). Writes (contents c.args.writer.now) (contents c.write_whole.new.writer)
          c.write_whole.result (warned_from d end first)) (sym none) c.write_whole.ensures.writes;
    }
