use Rattle.std.proofs.Common.{◌≡◌, ◌≤◌, length}
use Rattle.em_journal.specs.View.{after_backs}
use Rattle.em_journal.proofs.machine.Machine.back_by.Given as goal

abbrev pub invariant-loop-done : goal.invariant-loop-done
invariant-loop-done l = record {
  reached : l.done ≤ length l.initial.self.past;
  view : l.self ≡ after_backs l.done l.initial.self;
}
