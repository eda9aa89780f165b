use Rattle.std.proofs.Common.{◌<◌, length, inl, inr, arith}
use Rattle.std.proofs.lemmas.List.{length-map}
use Rattle.em_tape.specs.Texts.{texts}
use Rattle.em_tape.proofs.KeptLaws.{holds_put}
use Rattle.em_tape.proofs.tape.Tape.put_next.Goals as goal
use Rattle.em_tape.proofs.tape.Tape.put_next.Goals.{in-Ok, in-Err}

pub invariant_of-self : goal.invariant_of-self
invariant_of-self c =
    let lines = texts c.self.inside.lines.items in
    let few : length lines < 0x3FFF_FFFF =
    omega (arith, length-map c.self.inside.lines.items (λ v. v.items), c.len.ensures, c.if-len-ge-MOST_LINES.false) in
    rw c.truncate.ensures.items (holds_put c.args.line.now c.self.invariant (rw (← c.self.view_is) at c.requires)
    c.if-line-ge-MOST_OCTETS.false few
    (elim c.match-put_line.branch [ in-Ok w ↦ inl w.in-Ok.ensures.ok | in-Err w ↦ inr w.in-Err.ensures.err ]))
