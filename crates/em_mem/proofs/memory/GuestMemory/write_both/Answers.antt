use Rattle.std.proofs.Common.{◌≡◌, ℕ, ◌+◌, ◌/◌, Bool, true, false, List, length, slice_index_or, sym, ap, subst, ◌∙◌, arith}
use Rattle.em_mem.specs.Memory.{put}
use Rattle.em_mem.proofs.PutLaws.{put-put}
use Rattle.em_mem.proofs.memory.GuestMemory.write_both.Goals as goal

pub write-requires-then-not-is_empty-clause-made : goal.write-requires-then-not-is_empty-clause-made
write-requires-then-not-is_empty-clause-made c = λ i l.
    let n = length c.args.first.now in
    let at : c.args.addr + (n + i) ≡ c.args.addr + n + i = omega arith in
    subst (λ (x : List Bool × ℕ). slice_index_or x.0 (x.1 / 4096) false ≡ true)
    (λ k. (sym c.write.ensures.made k, at k)) (c.requires.made (n + i) (omega (arith, l)))

pub returns-then-not-is_empty-clause-octets : goal.returns-then-not-is_empty-clause-octets
returns-then-not-is_empty-clause-octets c =
    let m = c.args.self.now.octets in
    let a = c.args.addr in
    let first = c.args.first.now in
    let second = c.args.second.now in
    c.write-then-not-is_empty.ensures.octets
    ∙ ap (λ (x : List ℕ). put x (a + length first) second) c.write.ensures.octets
    ∙ put-put m a first second (omega (arith, c.requires.held.to))
