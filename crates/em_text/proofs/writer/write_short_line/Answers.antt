use Rattle.std.proofs.Common.{subst, List, ℕ, ◌*◌, length, arith}
use Rattle.std.specs.Prelude.{replicate}
use Rattle.std.proofs.lemmas.List.{get_or-replicate}
use Rattle.em_text.specs.Writer.{Writes}
use Rattle.em_text.proofs.WritingLemmas.{short_line}
use Rattle.em_text.proofs.writer.write_short_line.Goals as goal

pub returns : goal.returns
returns g c =
    let contents = g.W.Write.contents in
    let octets = c.args.octets.now in
    let line = short_line octets c.fill_digits.new.digits (replicate 129 10) c.fill_digits.ensures (omega arith)
    (get_or-replicate 129 (2 * length octets) 10 0 (omega arith)) in
    let writes =
    λ (text : List ℕ).
    Writes (contents c.args.writer.now) (contents c.write_whole.new.writer) c.write_whole.result text in
    record { writes = subst writes line c.write_whole.ensures.writes }
