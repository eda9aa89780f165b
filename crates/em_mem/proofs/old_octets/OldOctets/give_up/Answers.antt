use Rattle.std.proofs.Common.{◌≡◌, ◌∙◌, ap, sym, length, arith}
use Rattle.em_mem.specs.OldOctets.{OldOctets, forward_by, given_up}
use Rattle.em_mem.proofs.RingLaws.{length-turn}
use Rattle.em_mem.proofs.OldOctetsLaws.{given_up_in}
use Rattle.em_mem.proofs.old_octets.OldOctets.give_up.Goals as goal

pub returns-clause-given : goal.returns-clause-given
returns-clause-given c =
    let ring = c.self.inside.ring.items in
    let top = c.self.inside.top in
    let size : length ring ≡ length c.args.self.now.octets
    = sym (length-turn top ring) ∙ ap (λ (o : OldOctets). length o.octets) c.self.view_is in
    let room : c.len.result ≡ length ring = omega (arith, c.len.ensures) in
    given_up_in ring top c.args.len c.forward-self-inside.result (omega arith) (omega (arith, size, c.requires))
    (c.forward-self-inside.ensures ∙ ap (λ n. forward_by n c.args.len top) room)
    ∙ ap (given_up c.args.len) c.self.view_is

pub returns-clause-room : goal.returns-clause-room
returns-clause-room c =
    ap (λ (o : OldOctets). length o.octets) (returns-clause-given c) ∙ length-turn _ c.args.self.now.octets
