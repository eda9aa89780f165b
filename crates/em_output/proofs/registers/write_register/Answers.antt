use Rattle.std.proofs.Common.{subst}
use Rattle.em_text.specs.Writer.{Writes}
use Rattle.em_output.proofs.RegisterLemmas.{zero_written, line_written}
use Rattle.em_output.proofs.registers.write_register.Goals as goal

pub returns-then-value-eq0 : goal.returns-then-value-eq0
returns-then-value-eq0 g c = record {
  writes = zero_written c.args.machine.now.present c.args.offset _ c.requires.whole c.look.ensures
      c.unwrap_or-value.ensures c.if-value-eq0.true;
}

pub returns : goal.returns
returns g c =
    let contents = g.W.Write.contents in
    let line = c.write_register_line in
    record {
      writes = subst (λ text. Writes (contents c.args.writer.now) (contents line.new.writer) line.result text)
          (line_written c.args.machine.now.present c.args.offset c.requires.whole c.look.ensures
          c.unwrap_or-value.ensures c.if-value-eq0.false)
          line.ensures.writes;
    }
