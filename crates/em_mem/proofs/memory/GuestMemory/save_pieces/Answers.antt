use Rattle.std.proofs.Common.{◌≡◌, ◌+◌, ◌-◌, ◌∙◌, ap, arith}
use Rattle.em_mem.specs.Memory.{part}
use Rattle.em_mem.specs.OldOctets.{saved}
use Rattle.em_mem.proofs.OldOctetsLaws.{saved_more}
use Rattle.em_mem.proofs.memory.GuestMemory.save_pieces.Goals as goal

pub loop-left-preserved : goal.loop-left-preserved
loop-left-preserved c =
    let m = c.args.self.now.octets in
    let left = c.loop-left.left in
    let count = c.min-count.result in
    let n = c.args.len - left in
    let sum : count + n ≡ c.args.len - (left - count) = omega arith in
    record {
      within = omega arith;
      saved = saved_more m c.args.addr left count n c.args.old.now c.loop-left.old c.save.new.self
          c.loop-left.invariant.saved (omega arith)
          (c.save.ensures ∙ ap (λ d. saved d c.loop-left.old) c.in-Some.ensures.octets)
          (omega (arith, c.requires.held.to)) (omega arith)
          ∙ ap (λ k. saved (part m (c.args.addr + (left - count)) k) c.args.old.now) sum;
    }
