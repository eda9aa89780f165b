use Rattle.em_warnings.specs.Owned.{is_written}
use Rattle.em_warnings.proofs.FindLemmas.{round_found, round_none}
use Rattle.em_warnings.proofs.laws.written_descriptors_are_found.Goals as goal

pub returns : goal.returns
returns c = record {
  found = λ base memory write r i e. round_found (is_written base memory write r) r.setup.head r.setup.count i e;
  none = λ base memory write r e i below. round_none (is_written base memory write r) r.setup.head r.setup.count e i below;
}
