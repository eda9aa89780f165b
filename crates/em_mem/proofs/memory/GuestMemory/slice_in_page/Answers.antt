use Rattle.std.proofs.Common.{◌∙◌, ◌≡◌, ◌+◌, ◌-◌, ◌%◌, take, drop, ap, arith}
use Rattle.em_mem.proofs.MemoryLaws.{begins, page_in, part_of_page, rest_from}
use Rattle.em_mem.proofs.memory.GuestMemory.slice_in_page.Goals as goal

pub octets-octets-requires : goal.octets-octets-requires
octets-octets-requires c =
    page_in c.args.self.now c.self.inside.base c.self.inside.size c.self.inside.store c.self.invariant c.self.view_is
    c.args.addr c.args.len c.requires.some c.requires.held

pub slice_bounds-result-end : goal.slice_bounds-result-end
slice_bounds-result-end c =
    let base = begins c.args.self.now c.self.inside.base c.self.inside.size c.self.inside.store c.self.invariant
    c.self.view_is in
    let rest = rest_from c.self.inside.base c.args.addr c.self.invariant.range.whole_base
    (omega (arith, c.requires.held.from, base)) in
    omega (arith, c.octets-octets.ensures.whole, rest, c.requires.one)

pub returns : goal.returns
returns c =
    let k = c.args.addr - c.self.inside.base in
    let count : k % 4096 + c.args.len - k % 4096 ≡ c.args.len = omega arith in
    ap (λ n. take n (drop (k % 4096) c.octets-octets.result.now)) count
    ∙ part_of_page c.args.self.now c.self.inside.base c.self.inside.size c.self.inside.store c.self.invariant
    c.self.view_is c.args.addr c.args.len c.octets-octets.result.now c.requires.some c.requires.held c.requires.one
    c.octets-octets.ensures.octets
