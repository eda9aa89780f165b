use Rattle.std.proofs.Common.{ap, ◌∙◌}
use Rattle.em_watch.specs.Traced.{shown}
use Rattle.em_watch.proofs.TracedLaws.{shown-traced}
use Rattle.em_watch.proofs.search.seen.Goals as goal

pub returns : goal.returns
returns c = c.sight.ensures ∙ ap shown c.of.ensures ∙ shown-traced c.args.watch c.args.machine.now.present
