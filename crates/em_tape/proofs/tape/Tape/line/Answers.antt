use Rattle.std.proofs.Common.{◌≡◌, arith, subst, sym}
use Rattle.em_tape.specs.Tape.{Tape, line_here}
use Rattle.em_tape.proofs.StandingLaws.{nothing-whole}
use Rattle.em_tape.proofs.tape.Tape.line.Goals as goal

pub returns-then-self-clause-here : goal.returns-then-self-clause-here
returns-then-self-clause-here c =
    let inside = c.self.inside in
    subst (λ (t : Tape). 0 ≡ line_here t) c.self.view_is (sym (nothing-whole inside.whole inside.back inside.did.items c.self.invariant.tape.known
    (omega (arith, c.if-self.true, c.self.invariant.end))))
