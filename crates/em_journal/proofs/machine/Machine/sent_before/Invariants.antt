use Rattle.std.proofs.Common.{◌≡◌, length, take}
use Rattle.em_journal.specs.View.{oldest}
use Rattle.em_journal.proofs.machine.Machine.sent_before.Given as goal

-- so many in the state k steps back
abbrev pub invariant-loop-k : goal.invariant-loop-k
invariant-loop-k l = l.sent ≡ length (oldest l.fn.self.present (take l.k l.fn.self.past)).wire
