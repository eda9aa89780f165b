use Rattle.std.proofs.Common.{List, ℕ, subst}
use Rattle.em_text.specs.Writer.{Writes}
use Rattle.em_inspect.proofs.TwoPartLemmas.{line_of_two}
use Rattle.em_inspect.proofs.lines.write_octet_line.Goals as goal

pub returns : goal.returns
returns g c =
    let contents = g.W.Write.contents in
    record {
      writes = subst (λ (text : List ℕ).
          Writes (contents c.args.writer.now) (contents c.write_line.new.writer) c.write_line.result text)
          (line_of_two c.args.address c.args.front.now c.args.back.now) c.write_line.ensures.writes;
    }
