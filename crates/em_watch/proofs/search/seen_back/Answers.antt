use Rattle.em_watch.proofs.SearchLaws.{seen_from_now}
use Rattle.em_watch.proofs.TracedLaws.{traceable_now}
use Rattle.em_watch.proofs.search.seen_back.Goals as goal

pub follow-requires-clause-register : goal.follow-requires-clause-register
follow-requires-clause-register c =
    traceable_now c.args.watch c.args.machine.now.present c.of-now.result c.of-now.ensures

pub returns : goal.returns
returns c =
    seen_from_now c.args.watch c.args.machine.now c.args.back c.of-now.result c.follow.result c.sight.result
    c.of-now.ensures c.follow.ensures c.sight.ensures
