use Rattle.std.proofs.Common.{◌≡◌, ◌∙◌, ap, sym, length, arith}
use Rattle.em_mem.specs.OldOctets.{OldOctets, given_up}
use Rattle.em_mem.proofs.RingLaws.{length-turn}
use Rattle.em_mem.proofs.OldOctetsLaws.{given_up_in}
use Rattle.em_mem.proofs.old_octets.Saved.behind.Goals as goal

pub returns-clause-seen : goal.returns-clause-seen
returns-clause-seen c =
    let ring = c.self.inside.ring.now in
    let top = c.self.inside.top in
    let size : length ring ≡ length c.args.self.now.octets
    = sym (length-turn top ring) ∙ ap (λ (o : OldOctets). length o.octets) c.self.view_is in
    given_up_in ring top c.args.len c.forward.result (omega arith) (omega (arith, size, c.requires)) c.forward.ensures
    ∙ ap (given_up c.args.len) c.self.view_is

pub returns-clause-room : goal.returns-clause-room
returns-clause-room c =
    ap (λ (o : OldOctets). length o.octets) (returns-clause-seen c) ∙ length-turn _ c.args.self.now.octets
