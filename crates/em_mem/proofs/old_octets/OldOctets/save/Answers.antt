use Rattle.std.proofs.Common.{◌≡◌, ◌∙◌, ap, sym, length, arith}
use Rattle.em_mem.specs.OldOctets.{OldOctets, back_by, saved}
use Rattle.std.proofs.lemmas.Bool.Decides.{nat_tests}
use Rattle.em_mem.proofs.OldOctetsLaws.{saved_in}
use Rattle.em_mem.proofs.RingLaws.{length-turn}
use Rattle.em_mem.proofs.old_octets.OldOctets.save.Goals as goal
use Rattle.em_mem.proofs.old_octets.OldOctets.save.Goals.{then-len-self, else-len-self}

pub returns : goal.returns
returns c =
    let ring = c.self.inside.ring.items in
    let top = c.self.inside.top in
    let d = c.args.octets.now in
    let is : c.if-len-self.self ≡ back_by (length ring) (length d) top
    = elim c.if-len-self.branch [
      | then-len-self w ↦ grind (arith, nat_tests, w.self-is, w.if-len-self.true)
      | else-len-self w ↦ grind (arith, nat_tests, w.self-is, w.if-len-self.false)
    ] in
    let size : length ring ≡ length c.args.self.now.octets
    = sym (length-turn top ring) ∙ ap (λ (o : OldOctets). length o.octets) c.self.view_is in
    saved_in ring top d (omega arith) (omega (arith, size, c.requires)) c.if-len-self.self is c.put_octets.new.ring.items c.put_octets.ensures.ring
    ∙ ap (saved d) c.self.view_is
