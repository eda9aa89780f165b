use Rattle.std.proofs.Common.{◌≡◌, ◌∙◌, ap, sym, subst, length, refl, take}
use Rattle.em_mem.specs.Memory.{Reverses, part}
use Rattle.em_mem.proofs.PutLaws.{length-part, write_reverses}
use Rattle.em_mem.proofs.OldOctetsLaws.{first-saved}
use Rattle.em_mem.proofs.memory.GuestMemory.write_saving.Goals as goal

pub returns-clause-reverses : goal.returns-clause-reverses
returns-clause-reverses c =
    let before = c.args.self.now in
    let written = c.args.written.now in
    let d = part before.octets c.args.addr (length written) in
    let size : length d ≡ length written = length-part before.octets c.args.addr (length written) c.requires.held.to in
    let first : take (length written) c.save.new.old.octets ≡ d
    = ap (λ n. take n c.save.new.old.octets) (sym size)
    ∙ first-saved d c.args.old.now c.save.new.old c.save.ensures in
    subst (λ octets. Reverses before c.write.new.self (record { at = c.args.addr; octets = octets })) (sym first)
    (write_reverses before c.write.new.self c.args.addr written d c.requires.held c.requires.made
    c.write.ensures.base c.write.ensures.octets c.write.ensures.made refl)
