use Rattle.std.proofs.Common.{◌≡◌, ◌∙◌, ◌+◌, ◌-◌, length, take, drop, ap, arith, length-drop}
use Rattle.std.proofs.lemmas.List.{length-take-le}
use Rattle.em_mem.proofs.PieceLaws.{wrote_step}
use Rattle.em_mem.proofs.PutLaws.{length-put}
use Rattle.em_mem.proofs.memory.GuestMemory.write_pieces.Goals as goal

pub loop-done-preserved : goal.loop-done-preserved
loop-done-preserved c =
    let written = c.args.written.now in
    let done = c.loop-done.done in
    let count = c.in_page-count.result in
    let same_count : done + count - done ≡ count = omega arith in
    let piece : take (done + count - done) (drop done written) ≡ take count (drop done written)
    = λ i. take (same_count i) (drop done written) in
    record {
      within = omega arith;
      begins = c.write_piece.ensures.base ∙ c.loop-done.invariant.begins;
      wrote = wrote_step c.args.self.now.octets c.loop-done.self.octets c.write_piece.new.self.octets c.args.addr done
          count written _ c.loop-done.invariant.wrote piece c.write_piece.ensures.octets
          (omega arith) c.requires.held.to;
      kept = c.write_piece.ensures.made ∙ c.loop-done.invariant.kept;
    }

pub write_piece-requires-clause-held : goal.write_piece-requires-clause-held
write_piece-requires-clause-held c =
    let written = c.args.written.now in
    let done = c.loop-done.done in
    let count = c.in_page-count.result in
    let same_count : done + count - done ≡ count = omega arith in
    let size : length (take (done + count - done) (drop done written)) ≡ count
    = ap (λ n. length (take n (drop done written))) same_count
    ∙ length-take-le count (drop done written) (omega (arith, length-drop done written)) in
    let same : length c.loop-done.self.octets ≡ length c.args.self.now.octets
    = ap length c.loop-done.invariant.wrote
    ∙ length-put c.args.self.now.octets c.args.addr (take done written)
    (omega (arith, length-take-le done written (omega arith), c.requires.held.to)) in
    record {
      from = omega (arith, c.requires.held.from, c.loop-done.invariant.begins);
      to = omega (arith, c.requires.held.to, same, size);
    }
