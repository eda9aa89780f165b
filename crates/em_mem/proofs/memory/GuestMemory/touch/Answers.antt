use Rattle.std.proofs.Common.{◌+◌, ◌-◌, arith}
use Rattle.std.proofs.lemmas.Bool.{false≢true}
use Rattle.em_mem.proofs.MemoryLaws.{made_page_of, page_of}
use Rattle.em_mem.proofs.memory.GuestMemory.touch.Goals as goal

pub make_page-requires : goal.make_page-requires
make_page-requires c =
    page_of c.args.self.now c.self.inside.base c.self.inside.size c.self.inside.store c.self.invariant c.self.view_is
    c.args.addr c.args.len (omega arith) c.requires

pub make_each-requires-clause-from : goal.make_each-requires-clause-from
make_each-requires-clause-from c =
    page_of c.args.self.now c.self.inside.base c.self.inside.size c.self.inside.store c.self.invariant c.self.view_is
    c.args.addr c.args.len (omega arith) c.requires

pub make_each-requires-clause-last : goal.make_each-requires-clause-last
make_each-requires-clause-last c =
    page_of c.args.self.now c.self.inside.base c.self.inside.size c.self.inside.store c.self.invariant c.self.view_is
    (c.args.addr + c.args.len - 1) 1 (omega arith)
    (record { from = omega (arith, c.requires.from); to = omega (arith, c.requires.to) })

pub returns-in_err-make_each-clause-ready : goal.returns-in_err-make_each-clause-ready
returns-in_err-make_each-clause-ready c = λ made.
    absurd (false≢true (c.in_err-make_each.ensures.ready
    (λ p low high. made_page_of c.args.self.now.made c.args.addr c.args.len p made
    (omega arith, omega arith, omega arith))))
