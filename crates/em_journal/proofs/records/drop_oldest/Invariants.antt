use Rattle.std.proofs.Common.{◌≡◌, ◌≤◌, length, take}
use Rattle.std.specs.Prelude.{sum}
use Rattle.em_journal.specs.Records.{costs_by}
use Rattle.em_journal.specs.View.{reach}
use Rattle.em_journal.proofs.records.drop_oldest.Given as goal

abbrev pub invariant-loop-used : goal.invariant-loop-used
invariant-loop-used l = record {
  kept : l.records.items ≡ take (length l.records.items) l.initial.records.items;
  places : l.records.capacity ≡ l.initial.records.capacity;
  reached : reach l.room (costs_by l.initial.records.items) ≤ length l.records.items;
  short : length l.records.items ≤ length l.initial.records.items;
  counted : l.used ≡ sum (costs_by l.records.items);
  same : l.adapter ≡ l.initial.adapter;
}

abbrev pub decreases-loop-used : goal.decreases-loop-used
decreases-loop-used l = length l.records.items
