use Rattle.std.proofs.Common.{length}
use Rattle.em_text.specs.Writer.{hex_text}
use Rattle.em_text.proofs.WritingLemmas.{WroteFront}
use Rattle.em_text.proofs.writer.write_octets.Given as goal

-- the digits of the octets before `rest` were written
abbrev pub invariant-loop-rest : goal.invariant-loop-rest
invariant-loop-rest g l =
    let contents = g.W.Write.contents in
    WroteFront (contents l.fn.writer) (contents l.writer) (hex_text l.rest) (hex_text l.fn.octets)

abbrev pub decreases-loop-rest : goal.decreases-loop-rest
decreases-loop-rest g l = length l.rest
