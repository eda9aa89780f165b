use Rattle.em_inspect.proofs.ring_lines.write_buffers.Goals as goal

pub returns : goal.returns
returns g c = record {
  writes = rw (c.in-Receive.is, ← c.format.ensures.text, ← c.as_bytes.ensures.value) c.write_pieces.ensures.writes;
}
