-- Words as they are kept for em_bench, as text.
use Rattle.std.specs.Prelude.{ℕ, List, [], ◌++◌, codes}
use Rattle.em_text.specs.Writer.{value_digits}
use Rattle.em_prompt.specs.declared.kept.Kept.{Kept}
use Rattle.em_prompt.specs.declared.kept.Kept.TheVariants.{Word, Value, Address}
use Rattle.em_prompt.specs.declared.kept.KeptWords.{KeptWords}
use Rattle.em_prompt.specs.declared.kept.KeptWords.TheVariants.{None, One, Two, Rest}

abbrev pub kept_text : Kept → List ℕ
kept_text (Word octets) = octets.now
kept_text (Value value) = value_digits value
kept_text (Address digits) = digits

-- a word behind a space
abbrev pub spaced : List ℕ → List ℕ
spaced word = codes " " ++ word

-- what stands behind a name
abbrev pub behind_text : KeptWords → List ℕ
behind_text None = []
behind_text (One word) = spaced (kept_text word)
behind_text (Two first second) = spaced (kept_text first) ++ spaced (kept_text second)
behind_text (Rest rest) = rest.now
