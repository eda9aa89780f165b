use Rattle.std.proofs.Common.{◌≡◌, ◌≤◌, length}
use Rattle.em_journal.specs.View.{after_backs}
use Rattle.em_trail.proofs.traced.Traced.back_by.Given as goal

abbrev pub invariant-loop-done : goal.invariant-loop-done
invariant-loop-done l = record {
  reached : l.done ≤ length l.initial.self.view.past;
  view : l.self.view ≡ after_backs l.done l.initial.self.view;
}
