use Rattle.std.proofs.Common.{◌≡◌, ℕ, ◌+◌, Bool, subst, ap, ◌∙◌}
use Rattle.std.specs.Prelude.{min}
use Rattle.em_tape.specs.Tape.{event_of, reached, IsNear}
use Rattle.em_text.specs.Writer.{Writes}
use Rattle.em_debugger.specs.Moves.{forward_by, gone_text, near_text, Goes}
use Rattle.em_debugger.proofs.debugger.Debugger.forward.Goals as goal

pub returns-clause-goes : goal.returns-clause-goes
returns-clause-goes g c =
    let contents = g.W.Write.contents in
    let old = c.args.self.now.tape in
    let new = c.go.new.self.tape in
    let is : c.event_ahead-event.result ≡ forward_by c.args.events old =
    c.event_ahead-event.ensures ∙ ap (λ (k : ℕ). min (reached old + k) 0xFFFF_FFFF_FFFF_FFFF) c.from.ensures in
    subst (λ (n : ℕ). (gone : Bool) × Goes (IsNear n) old new gone
    × Writes (contents c.args.writer.now) (contents c.go.new.writer) c.go.result
    (gone_text new (near_text n (event_of new)) gone)) is c.go.ensures.goes
