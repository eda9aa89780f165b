use Rattle.std.proofs.Common.{◌∙◌, ◌≡◌, ◌+◌, ◌-◌, ◌*◌, ◌/◌, ◌%◌, ap, length, subst, arith}
use Rattle.em_mem.specs.declared.TheConstants.{PAGE_OCTETS}
use Rattle.em_mem.specs.Memory.{IsPageMade, put}
use Rattle.em_mem.proofs.MemoryLaws.{begins, length-put_pages, made_at, page_in, put_cells, rest_from}
use Rattle.em_mem.proofs.memory.GuestMemory.write_piece.Goals as goal

pub write-requires-clause-page : goal.write-requires-clause-page
write-requires-clause-page c =
    page_in c.args.self.now c.self.inside.base c.self.inside.size c.self.inside.store c.self.invariant c.self.view_is
    c.args.addr (length c.args.written.now) c.requires.some c.requires.held

pub write-requires-clause-range : goal.write-requires-clause-range
write-requires-clause-range c =
    let base = begins c.args.self.now c.self.inside.base c.self.inside.size c.self.inside.store c.self.invariant
    c.self.view_is in
    let rest = rest_from c.self.inside.base c.args.addr c.self.invariant.range.whole_base
    (omega (arith, c.requires.held.from, base)) in
    omega (arith, rest, c.requires.one)

pub write-requires-clause-made : goal.write-requires-clause-made
write-requires-clause-made c =
    let first : c.args.addr + 0 ≡ c.args.addr = omega arith in
    made_at c.args.self.now c.self.inside.base c.self.inside.size c.self.inside.store c.self.invariant c.self.view_is
    c.args.addr (length c.args.written.now) c.requires.some c.requires.held
    (subst (λ a. IsPageMade c.args.self.now (a / 4096)) first (c.requires.made 0 c.requires.some))

pub invariant_of-self : goal.invariant_of-self
invariant_of-self c =
    let k = c.args.addr - c.self.inside.base in
    let d = c.args.written.now in
    let at : PAGE_OCTETS * (k / PAGE_OCTETS) + k % PAGE_OCTETS ≡ k = omega arith in
    let size = ap length (c.write.ensures.octets ∙ ap (λ j. put c.self.inside.store.octets j d) at)
    ∙ length-put_pages c.args.self.now c.self.inside.base c.self.inside.size c.self.inside.store c.self.invariant
    c.self.view_is c.args.addr d c.requires.held in
    record {
      range = c.self.invariant.range;
      room = omega (arith, c.self.invariant.room, size);
      pages = omega (arith, c.self.invariant.pages, size, ap length c.write.ensures.made);
    }

pub returns-clause-octets : goal.returns-clause-octets
returns-clause-octets c =
    let k = c.args.addr - c.self.inside.base in
    let d = c.args.written.now in
    let at : PAGE_OCTETS * (k / PAGE_OCTETS) + k % PAGE_OCTETS ≡ k = omega arith in
    put_cells c.args.self.now c.self.inside.base c.self.inside.size c.self.inside.store c.self.invariant
    c.self.view_is c.write.new.self c.args.addr d c.requires.held
    (c.write.ensures.octets ∙ ap (λ j. put c.self.inside.store.octets j d) at)
