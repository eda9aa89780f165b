use Rattle.std.proofs.Common.{◌≡◌, ◌-◌, ℕ, ap, subst, ◌∙◌}
use Rattle.em_named.specs.Numbers.{end_of}
use Rattle.em_text.specs.Writer.{Writes}
use Rattle.em_debugger.specs.History.{events_text}
use Rattle.em_debugger.proofs.debugger.Debugger.write_events_of.Goals as goal

pub returns : goal.returns
returns g c =
    let contents = g.W.Write.contents in
    let noted = c.args.self.now.tape.did in
    let before : c.end_of-before.result ≡ end_of (c.args.line - 1) noted =
    c.end_of-before.ensures ∙ ap (λ (k : ℕ). end_of k noted) c.saturating_sub.ensures in
    record {
      writes = subst (λ (b : ℕ). Writes (contents c.args.writer.now) (contents c.write_events.new.writer)
          c.write_events.result (events_text b (end_of c.args.line noted))) before
          (subst (λ (a : ℕ). Writes (contents c.args.writer.now) (contents c.write_events.new.writer)
          c.write_events.result (events_text c.end_of-before.result a)) c.end_of-after.ensures
          c.write_events.ensures.writes);
    }
