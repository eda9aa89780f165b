use Rattle.std.proofs.Common.{◌≡◌, ◌∙◌, None, ap, arith, length, rules}
use Rattle.em_mem.specs.Memory.{IsHeld}
use Rattle.em_mem.proofs.PutLaws.{length-part}
use Rattle.em_tx.specs.Descriptor.{address, length_of}
use Rattle.em_tx.specs.Frame.{tag_of}
use Rattle.em_tx.proofs.FrameLaws.{frame_whole}
use Rattle.em_tx.proofs.engine.whole_frame.Goals as goal

pub returns-clause-frame : goal.returns-clause-frame
returns-clause-frame c =
    let d = c.args.descriptor.now in
    let m = c.args.memory.now.octets in
    let held : IsHeld c.args.memory.now (address d) (length_of d) = c.requires.held (omega arith) in
    let size : length c.in_ok-found.found.now ≡ length_of d
    = ap length c.in_ok-found.ensures.octets
    ∙ length-part m c.address.result c.from-length.result (omega (arith, held.to, c.address.ensures)) ∙ omega arith in
    let none : tag_of c.args.setup.now.vlan d (length_of d) ≡ None = search rules in
    frame_whole c.args.setup.now d _ (ap (tag_of c.args.setup.now.vlan d) size ∙ none) (omega (arith, size))
