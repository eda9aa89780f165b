use Rattle.std.proofs.Common.{ap, ◌∙◌}
use Rattle.em_address.specs.Kind.{destination}
use Rattle.em_reasons.proofs.DropLemmas.{destination_to, source_from}
use Rattle.em_reasons.proofs.dropped.rejected.Goals as goal

pub passes_address-requires-clause-to : goal.passes_address-requires-clause-to
passes_address-requires-clause-to c = ap destination c.destination-to.ensures ∙ destination_to c.args.frame.now

pub passes_address-requires-clause-from : goal.passes_address-requires-clause-from
passes_address-requires-clause-from c = ap destination c.source.ensures ∙ source_from c.args.frame.now
