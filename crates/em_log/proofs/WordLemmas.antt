-- Words that are taken one after another.
use Rattle.std.proofs.Common.{◌≡◌, ◌∙◌, ℕ, ◌+◌, List, [], ◌∷◌, drop, ap, sym, Option, Some, None}
use Rattle.std.specs.Prelude.{MatchOption}
use Rattle.std.proofs.Math.Seq.{drop-drop}

-- a word that is taken, if there is one, leaves those behind it
pub one_behind : {A B : Type 0} (view : A → B) (words left : List B) (taken : Option A)
    → MatchOption taken ((words ≡ []) × (left ≡ [])) (λ word. words ≡ view word ∷ left) → left ≡ drop 1 words
one_behind view words left None h = h.1 ∙ sym (ap (drop 1) h.0)
one_behind view words left (Some word) h = sym (ap (drop 1) h)

-- one word more
pub drop_one_more : {A B : Type 0} (view : A → B) (all words left : List B) (count : ℕ) (taken : Option A)
    → words ≡ drop count all
    → MatchOption taken ((words ≡ []) × (left ≡ [])) (λ word. words ≡ view word ∷ left)
    → left ≡ drop (count + 1) all
drop_one_more view all words left count taken are h =
    one_behind view words left taken h ∙ ap (drop 1) are ∙ drop-drop 1 count all
