-- The registers of a record's start, one after another.
use Rattle.std.proofs.Common.{◌≡◌, ℕ, ◌+◌, suc, [], ◌++◌, refl}
use Rattle.em_step.specs.State.{State}
use Rattle.em_recording.specs.StartText.{word_text, words_text}

-- the first of some words, and the others
pub words_text-more : (s : State) (word : ℕ) {n m : ℕ} → n ≡ suc m
    → words_text s word n ≡ word_text s word ++ words_text s (word + 1) m
unfolding words_text
words_text-more s word e = rw e refl

-- no words
pub words_text-none : (s : State) (word : ℕ) {n : ℕ} → n ≡ 0 → words_text s word n ≡ []
unfolding words_text
words_text-none s word e = rw e refl
