use Rattle.std.proofs.Common.{◌≡◌, ◌≤◌, take}
use Rattle.em_turn.specs.Turn.{arrivals}
use Rattle.em_driver.proofs.counting.arrivals_of.Given as goal

abbrev pub invariant-loop-turn : goal.invariant-loop-turn
invariant-loop-turn l = record {
  counted : l.count ≡ arrivals (take l.turn-index l.turns);
  few : l.count ≤ l.turn-index;
}
