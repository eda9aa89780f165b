use Rattle.em_journal.proofs.ProfileLaws.{in_each}
use Rattle.em_journal.proofs.machine.Machine.write_register.Goals as goal

pub write_found-requires : goal.write_found-requires
write_found-requires c = in_each c.args.reg c.args.self.now.present.profile c.requires
