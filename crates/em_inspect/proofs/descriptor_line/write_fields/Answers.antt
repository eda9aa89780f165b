use Rattle.em_inspect.proofs.descriptor_line.write_fields.Goals as goal

pub returns : goal.returns
returns g c = record {
  writes = rw (c.mark.ensures, c.mark-2.ensures, c.from.ensures, c.from-2.ensures, c.owner_word.ensures)
      at c.write_line.ensures.writes;
}
