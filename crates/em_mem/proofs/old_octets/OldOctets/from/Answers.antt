use Rattle.std.proofs.Common.{◌≡◌, ◌∙◌, ℕ, List, ap, sym, length, arith}
use Rattle.em_mem.specs.OldOctets.{OldOctets, seen_from}
use Rattle.em_mem.proofs.RingLaws.{length-turn}
use Rattle.em_mem.proofs.OldOctetsLaws.{seen, seen_in}
use Rattle.em_mem.proofs.old_octets.OldOctets.from.Goals as goal

pub returns-clause-seen : goal.returns-clause-seen
returns-clause-seen c =
    let ring = c.self.inside.ring.items in
    let top = c.self.inside.top in
    let size : length ring ≡ length c.args.self.now.octets
    = sym (length-turn top ring) ∙ ap (λ (o : OldOctets). length o.octets) c.self.view_is in
    ap (λ (xs : List ℕ). seen xs c.args.place) c.as_slice.ensures.value
    ∙ seen_in ring top c.args.place (omega arith) (omega (arith, size, c.requires)) ∙ ap (seen_from c.args.place) c.self.view_is

pub returns-clause-room : goal.returns-clause-room
returns-clause-room c =
    ap (λ (o : OldOctets). length o.octets) (returns-clause-seen c) ∙ length-turn _ c.args.self.now.octets
