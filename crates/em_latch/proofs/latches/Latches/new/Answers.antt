use Rattle.std.proofs.Common.{sym}
use Rattle.em_latch.proofs.PlaceLaws.{fresh_is}
use Rattle.em_latch.proofs.latches.Latches.new.Goals as goal

pub returns : goal.returns
returns c = sym fresh_is
