use Rattle.std.proofs.Common.{◌≡◌, ◌∙◌, ap, sym, length, rules}
use Rattle.em_mem.specs.Memory.{part}
use Rattle.em_mem.proofs.PutLaws.{write_reverses}
use Rattle.em_mem.proofs.memory.GuestMemory.replace.Goals as goal

pub returns-clause-reverses : goal.returns-clause-reverses
returns-clause-reverses g c =
    let before = c.args.self.now in
    let at = c.args.addr in
    let written = c.args.written.now in
    let n : length written ≡ g.row.N = search rules in
    let old = c.read_array-old in
    write_reverses before c.write.new.self at written old.result (rw n c.requires.held) (rw n c.requires.made)
    c.write.ensures.base c.write.ensures.octets c.write.ensures.made (old.ensures ∙ ap (part before.octets at) (sym n))
