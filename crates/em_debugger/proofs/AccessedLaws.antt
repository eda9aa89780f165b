-- Events of which none was an access.
use Rattle.std.proofs.Common.{◌≡◌, ℕ, ◌+◌, false, inl, inr, subst, arith}
use Rattle.std.proofs.lemmas.Bool.{cases_lt}
use Rattle.em_journal.specs.View.{states}
use Rattle.em_trail.specs.Trail.{TellsAt}
use Rattle.em_trail.specs.declared.note.Note.{Note}
use Rattle.em_tape.specs.Tape.{Tape}
use Rattle.em_watch.specs.declared.watch.Watch.{Watch}
use Rattle.em_debugger.specs.Accessed.{NoneAccesses, is_access}

-- one more
pub none_more : (tape : Tape) (watch : Watch) (first last : ℕ) (note : Note) → NoneAccesses tape watch first last
    → TellsAt (states tape.session.machine) last note → is_access watch note ≡ false
    → NoneAccesses tape watch first (last + 1)
none_more tape watch first last note none tells is k le lt = elim (cases_lt k last) [
  | inl before ↦ none k le before
  | inr behind ↦
      let same : last ≡ k = omega arith in
      (note, (subst (λ n. TellsAt (states tape.session.machine) n note) same tells, is))
]
