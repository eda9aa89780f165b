use Rattle.std.proofs.Common.{◌≡◌, ◌∙◌, ℕ, ◌+◌, ◌-◌, ◌/◌, ◌≤◌, Bool, true, false, List, take, drop, ap, sym, subst}
use Rattle.std.proofs.Common.{length, arith, length-drop, slice_index_or}
use Rattle.std.proofs.lemmas.List.{take_all, length-take-le}
use Rattle.em_mem.specs.Memory.{part, put}
use Rattle.em_mem.proofs.PutLaws.{write_reverses, length-part, length-put}
use Rattle.em_mem.proofs.PieceLaws.{wrote_step, old_step, read_step, rest_step}
use Rattle.em_mem.proofs.memory.GuestMemory.swap.Goals as goal

-- how many octets a piece has
piece_size : (done count : ℕ) (octets : List ℕ) → done + count ≤ length octets
    → length (take (done + count - done) (drop done octets)) ≡ count
piece_size done count octets within =
    let same_count : done + count - done ≡ count = omega arith in
    ap (λ n. length (take n (drop done octets))) same_count
    ∙ length-take-le count (drop done octets) (omega (arith, length-drop done octets))

pub swap_piece-requires-clause-held : goal.swap_piece-requires-clause-held
swap_piece-requires-clause-held c =
    let written = c.args.swapped.now in
    let done = c.loop-done.done in
    let size = piece_size done c.min-count.result c.loop-done.swapped (omega arith) in
    let same : length c.loop-done.self.octets ≡ length c.args.self.now.octets
    = ap length c.loop-done.invariant.wrote
    ∙ length-put c.args.self.now.octets c.args.addr (take done written)
    (omega (arith, length-take-le done written (omega arith), c.requires.held.to)) in
    record {
      from = omega (arith, c.requires.held.from, c.loop-done.invariant.begins);
      to = omega (arith, c.requires.held.to, same, size);
    }

pub swap_piece-requires-clause-made : goal.swap_piece-requires-clause-made
swap_piece-requires-clause-made c = λ i l.
    let done = c.loop-done.done in
    let size = piece_size done c.min-count.result c.loop-done.swapped (omega arith) in
    let at : c.args.addr + (done + i) ≡ c.args.addr + done + i = omega arith in
    subst (λ (x : List Bool × ℕ). slice_index_or x.0 (x.1 / 4096) false ≡ true)
    (λ k. (sym c.loop-done.invariant.kept k, at k)) (c.requires.made (done + i) (omega (arith, l, size)))

pub loop-done-preserved : goal.loop-done-preserved
loop-done-preserved c =
    let before = c.args.self.now.octets in
    let so_far = c.loop-done.self.octets in
    let written = c.args.swapped.now in
    let slice = c.loop-done.swapped in
    let done = c.loop-done.done in
    let count = c.min-count.result in
    let same_count : done + count - done ≡ count = omega arith in
    let piece : take (done + count - done) (drop done slice) ≡ take count (drop done written) =
    (λ i. take (same_count i) (c.loop-done.invariant.rest i)) in
    let size = piece_size done count slice (omega arith) in
    let piece_old = c.swap_piece.ensures.old ∙ ap (part so_far (c.args.addr + done)) size in
    let old = old_step before so_far c.args.addr done count written c.swap_piece.new.swapped
    c.loop-done.invariant.wrote piece_old (omega arith) c.requires.held.to in
    let old_size : length c.swap_piece.new.swapped ≡ count = ap length old
    ∙ length-part before (c.args.addr + done) count (omega (arith, c.requires.held.to)) in
    record {
      within = omega arith;
      begins = c.swap_piece.ensures.base ∙ c.loop-done.invariant.begins;
      wrote = wrote_step before so_far c.swap_piece.new.self.octets c.args.addr done count written _
          c.loop-done.invariant.wrote piece c.swap_piece.ensures.octets (omega arith) c.requires.held.to;
      kept = c.swap_piece.ensures.made ∙ c.loop-done.invariant.kept;
      old = read_step before c.args.addr done count _ slice c.swap_piece.new.swapped
          (omega arith) c.loop-done.invariant.old old_size old;
      rest = rest_step done count _ slice written c.swap_piece.new.swapped c.loop-done.invariant.rest
          (omega arith) same_count (old_size ∙ sym same_count);
    }

pub returns-clause-reverses : goal.returns-clause-reverses
returns-clause-reverses c =
    let before = c.args.self.now.octets in
    let written = c.args.swapped.now in
    let all : c.loop-done.done ≡ length written = omega arith in
    let wrote = c.loop-done.invariant.wrote ∙ ap (put before c.args.addr)
    (take_all c.loop-done.done written (omega arith)) in
    let old = sym (take_all c.loop-done.done c.loop-done.swapped (omega arith)) ∙ c.loop-done.invariant.old
    ∙ ap (part before c.args.addr) all in
    write_reverses c.args.self.now c.loop-done.self c.args.addr written c.loop-done.swapped c.requires.held
    c.requires.made c.loop-done.invariant.begins wrote c.loop-done.invariant.kept old
