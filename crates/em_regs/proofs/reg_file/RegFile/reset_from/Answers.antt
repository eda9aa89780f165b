use Rattle.std.proofs.Common.{sym}
use Rattle.em_regs.proofs.PlaceLaws.{zeroed_is}
use Rattle.em_regs.proofs.reg_file.RegFile.reset_from.Goals as goal

pub start-requires : goal.start-requires
start-requires c = sym zeroed_is
