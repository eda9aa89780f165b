use Rattle.std.proofs.Common.{◌≡◌, ℕ, length, arith, inl, inr}
use Rattle.std.specs.Prelude.{◌==◌, IsTrue}
use Rattle.std.proofs.lemmas.Bool.{cases_lt}
use Rattle.std.proofs.lemmas.Bool.Decides.{nat_tests}
use Rattle.em_text.proofs.FrontLemmas.{no_word_left, word_left}
use Rattle.em_text.proofs.words.Words.is_over.Goals as goal

same_from_test : (a b : ℕ) → IsTrue (a == b) → a ≡ b
same_from_test a b h = grind (arith, nat_tests)

test_of_same : (a b : ℕ) → a ≡ b → IsTrue (a == b)
test_of_same a b h = grind (arith, nat_tests)

pub returns : goal.returns
returns c =
    let line = c.args.self.now.0.now in
    let blanks = c.blanks_len.ensures.value in (
      λ all. no_word_left line c.blanks_len.result blanks (same_from_test _ _ all),
      λ none.
          elim (cases_lt c.blanks_len.result (length line)) [
            | inl lt ↦ absurd (word_left line c.blanks_len.result blanks lt none)
            | inr past ↦ test_of_same _ _ (omega (arith, past, c.blanks_len.ensures.within))
          ],
    )
