use Rattle.std.proofs.Common.{length, sym, ap, ◌∙◌}
use Rattle.em_trail.specs.Trail.{Trail}
use Rattle.em_trail.proofs.TrailLaws.{length-trail}
use Rattle.em_trail.proofs.traced.Traced.len.Goals as goal

pub returns-clause-notes : goal.returns-clause-notes
returns-clause-notes c =
    c.can_go_back.ensures.past ∙ sym (length-trail _ _ _ c.self.invariant.trail)
    ∙ ap (λ (t : Trail). length t.notes) c.self.view_is
