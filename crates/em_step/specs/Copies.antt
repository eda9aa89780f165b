-- Records that take the same back.
use Rattle.std.specs.Prelude.{◌≡◌}
use Rattle.em_mem.specs.OldOctets.{OldOctets}
use Rattle.em_step.specs.Cost.{cost_by, cost_by_effect}
use Rattle.em_step.specs.Undo.{IsAt, IsAtBy, changed, held, held_by, undo_of}
use Rattle.em_step.specs.declared.undo.Effect.{Effect}
use Rattle.em_step.specs.declared.undo.Record.{Record}

-- over the same old octets f means what e means, and it costs as much
pub record SameEffect (e f : Effect) : Type 0 where
  pub changed : (o : OldOctets) → changed f o ≡ changed e o
  pub held : held_by f ≡ held_by e
  pub cost : cost_by_effect f ≡ cost_by_effect e
  pub at : (o : OldOctets) → IsAtBy e o → IsAtBy f o

-- record s takes back what r takes back
pub record SameRecord (r s : Record) : Type 0 where
  pub undo : (o : OldOctets) → undo_of s o ≡ undo_of r o
  pub held : held s ≡ held r
  pub cost : cost_by s ≡ cost_by r
  pub at : (o : OldOctets) → IsAt r o → IsAt s o
