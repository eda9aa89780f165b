use Rattle.std.proofs.Common.{◌∙◌, inl, inr, refl}
use Rattle.em_text.proofs.OctetsLemmas.{no_octets}
use Rattle.em_text.proofs.numbers.octets_into.Goals as goal
use Rattle.em_text.proofs.numbers.octets_into.Goals.{in_default-found-via-in-Some+else-len-word}
use Rattle.em_text.proofs.numbers.octets_into.Goals.{in_default-found-via-in_default-found}

pub returns-in_default-found-clause-value : goal.returns-in_default-found-clause-value
returns-in_default-found-clause-value c =
    elim c.in_default-found.branch [
      | in_default-found-via-in-Some+else-len-word w ↦
          let some = rw w.in-Some.is at c.in-Ok.ensures.some in
          no_octets c.args.word.now (inl (λ whole. w.if-len-word.false (some.0 ∙ whole)))
      | in_default-found-via-in_default-found w ↦
          let none = rw w.in_default-found.is at c.in-Ok.ensures.none in
          no_octets c.args.word.now (inr (none refl).0)
    ]
