use Rattle.std.proofs.Common.{◌∙◌, ℕ, ap, arith}
use Rattle.em_warnings.specs.Descriptors.{first_from, is_flawed}
use Rattle.em_warnings.proofs.FindLemmas.{finds_below, unflawed}
use Rattle.em_warnings.proofs.descriptors.first_from.Goals as goal

pub returns-in-Ok : goal.returns-in-Ok
returns-in-Ok c =
    let r = c.args.ring.now in
    let v = c.args.machine.now in
    let none = c.held.ensures in
    c.first_below.ensures ∙ ap (λ (to : ℕ). first_from r v c.args.flaw c.args.from to) c.min.ensures
    ∙ finds_below (is_flawed r v c.args.flaw) c.args.from c.args.to c.in-Ok.held
    (λ i behind. unflawed r v c.args.flaw i (none i (omega arith)))
