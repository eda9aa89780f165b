use Rattle.em_journal.proofs.ProfileLaws.{in_each}
use Rattle.em_journal.proofs.machine.Machine.read_register.Goals as goal

pub read_found-requires : goal.read_found-requires
read_found-requires c = in_each c.args.reg c.args.self.now.present.profile c.requires
