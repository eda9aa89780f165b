use Rattle.std.proofs.Common.{◌≡◌, ◌∙◌, take, ap, sym, refl}
use Rattle.std.proofs.lemmas.List.{take-map}
use Rattle.em_tape.specs.Texts.{texts}
use Rattle.em_tape.proofs.KeptLaws.{holds_cut}
use Rattle.em_tape.proofs.tape.Tape.drop_ahead.Goals as goal

pub invariant_of-self : goal.invariant_of-self
invariant_of-self c =
    let whole = c.self.inside.whole in
    let lines = c.self.inside.lines.items in
    let cut : texts c.truncate.new.self.items ≡ take whole (texts lines) =
    ap texts c.truncate.ensures.items ∙ sym (take-map (λ v. v.items) whole lines) in
    rw (cut, c.truncate-2.ensures.items, c.truncate-3.ensures.items) (holds_cut c.self.invariant)

pub returns-clause-tape : goal.returns-clause-tape
returns-clause-tape c =
    let whole = c.self.inside.whole in
    let lines = c.self.inside.lines.items in
    let cut : texts c.truncate.new.self.items ≡ take whole (texts lines) =
    ap texts c.truncate.ensures.items ∙ sym (take-map (λ v. v.items) whole lines) in
    rw (← c.self.view_is, cut, c.truncate-2.ensures.items) refl
