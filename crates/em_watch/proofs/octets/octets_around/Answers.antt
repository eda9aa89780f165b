use Rattle.std.proofs.Common.{◌-◌}
use Rattle.em_watch.proofs.OctetLaws.{is_octets, shows_octets}
use Rattle.em_watch.proofs.octets.octets_around.Goals as goal

pub octets-requires : goal.octets-requires
octets-requires c =
    is_octets c.args.machine.now c.args.back c.args.range c.around-before.result.0 c.requires.held
    c.around-before.ensures.before

pub octets-requires-2 : goal.octets-requires-2
octets-requires-2 c =
    is_octets c.args.machine.now (c.args.back - 1) c.args.range c.around-before.result.1 c.requires.held
    c.around-before.ensures.after

pub returns-clause-before : goal.returns-clause-before
returns-clause-before c =
    shows_octets c.args.machine.now c.args.back c.args.range c.around-before.result.0 c.octets.result c.requires.held
    c.around-before.ensures.before c.octets.ensures

pub returns-clause-after : goal.returns-clause-after
returns-clause-after c =
    shows_octets c.args.machine.now (c.args.back - 1) c.args.range c.around-before.result.1 c.octets-2.result
    c.requires.held c.around-before.ensures.after c.octets-2.ensures
