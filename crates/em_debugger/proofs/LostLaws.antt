-- Events of which none lost a frame.
use Rattle.std.proofs.Common.{◌≡◌, ℕ, ◌+◌, false, inl, inr, subst, arith}
use Rattle.std.proofs.lemmas.Bool.{cases_lt}
use Rattle.em_journal.specs.View.{states}
use Rattle.em_trail.specs.Trail.{TellsAt}
use Rattle.em_trail.specs.declared.note.Note.{Note}
use Rattle.em_tape.specs.Tape.{Tape}
use Rattle.em_debugger.specs.Lost.{NoneLost, is_lost}

-- one more
pub none_more : (tape : Tape) (n : ℕ) (note : Note) → NoneLost tape n → TellsAt (states tape.session.machine) n note
    → is_lost note.kind ≡ false → NoneLost tape (n + 1)
none_more tape n note none tells is k lt = elim (cases_lt k n) [
  | inl before ↦ none k before
  | inr behind ↦
      let same : n ≡ k = omega arith in
      (note, (subst (λ m. TellsAt (states tape.session.machine) m note) same tells, is))
]
