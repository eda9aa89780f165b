use Rattle.std.proofs.lemmas.Bool.{ne_eqb}
use Rattle.em_reasons.proofs.refused_text.write_bounds.Goals as goal

pub returns-then-memory-eq0 : goal.returns-then-memory-eq0
returns-then-memory-eq0 g c = record { writes = rw c.if-memory-eq0.true c.write_text.ensures.writes }

pub returns : goal.returns
returns g c = record { writes = rw (ne_eqb c.args.memory.base 0 c.if-memory-eq0.false) c.write_text-2.ensures.writes }
