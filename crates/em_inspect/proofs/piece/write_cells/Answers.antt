use Rattle.std.proofs.lemmas.Result.{MatchResult-from_err}
use Rattle.em_text.proofs.WritingLemmas.{WritesPart-among}
use Rattle.em_inspect.specs.Piece.{cell_text}
use Rattle.em_inspect.proofs.piece.write_cells.Goals as goal

pub returns-in_err-write_cell : goal.returns-in_err-write_cell
returns-in_err-write_cell g c = record {
  writes = MatchResult-from_err _ _ _ c.from_residual.ensures.0 (λ _.
      WritesPart-among (cell_text c.args.cell) c.args.octets.now c.loop-octet.octet-index _
      c.loop-octet-test.true c.loop-octet.invariant c.in_err-write_cell.ensures.writes);
}
