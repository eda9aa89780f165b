-- Lists of strings, line by line.
use Rattle.std.proofs.Common.{◌≡◌, ◌∙◌, ℕ, List, [], ◌∷◌, ◌++◌, length, append_assoc, append-nil, Option, Result, refl, sym, ap, subst}
use Rattle.std.specs.Prelude.{codes}
use Rattle.std.specs.Io.KnownBytes.{Appends}
use Rattle.std.proofs.lemmas.List.{nil_from_length}
use Rattle.em_text.specs.Lines.{lines_of}
use Rattle.em_text.specs.Writer.{Writes, WritesPart}
use Rattle.em_text.proofs.LinesLemmas.{lines_of-nil}
use Rattle.em_text.proofs.WritingLemmas.{Appends-more, Appends-same, WritesPart-front, WritesPart-more, Writes-more}
use Rattle.em_json.specs.Strings.{joined, joined_behind, string_text}

pub none_left : (rest : List ℕ) → length rest ≡ 0 → lines_of rest ≡ []
none_left rest none = ap lines_of (nil_from_length rest none) ∙ lines_of-nil

-- a string behind a comma
abbrev pub next_text : List ℕ → List ℕ
next_text line = codes "," ++ string_text line

-- the lines of a text were written as far as this rest of it, each behind a comma
pub record WroteJoined (old new : Option (List ℕ)) (text rest : List ℕ) : Type 0 where
  pub front : List ℕ
  pub written : Appends old new front
  pub whole : joined_behind (lines_of text) ≡ front ++ joined_behind (lines_of rest)

pub WroteJoined-none : (old : Option (List ℕ)) (text : List ℕ) → WroteJoined old old text text
WroteJoined-none old text = record { front = []; written = Appends-same old; whole = refl }

-- the text of what is left, where a line is taken off it
left_by : (rest line behind : List ℕ) → lines_of rest ≡ line ∷ lines_of behind
    → joined_behind (lines_of rest) ≡ next_text line ++ joined_behind (lines_of behind)
left_by rest line behind is = ap joined_behind is

-- one line more
pub WroteJoined-more : (old new later : Option (List ℕ)) (text rest line behind : List ℕ)
    → WroteJoined old new text rest → lines_of rest ≡ line ∷ lines_of behind → Appends new later (next_text line)
    → WroteJoined old later text behind
WroteJoined-more old new later text rest line behind h is written = record {
  front = h.front ++ next_text line;
  written = Appends-more old new later h.front (next_text line) _ h.written written refl;
  whole = h.whole ∙ ap (λ l. h.front ++ l) (left_by rest line behind is)
      ∙ sym (append_assoc h.front (next_text line) (joined_behind (lines_of behind)));
}

-- a part of the next
pub WroteJoined-part : (old new later : Option (List ℕ)) (text rest line behind : List ℕ)
    → WroteJoined old new text rest → lines_of rest ≡ line ∷ lines_of behind → WritesPart new later (next_text line)
    → WritesPart old later (joined_behind (lines_of text))
WroteJoined-part old new later text rest line behind h is part =
    WritesPart-more h.front h.written (WritesPart-front (joined_behind (lines_of behind)) part (left_by rest line behind is))
    h.whole

-- all were, where nothing is left
pub WroteJoined-all : (old new : Option (List ℕ)) (text rest : List ℕ) → WroteJoined old new text rest
    → length rest ≡ 0 → Appends old new (joined_behind (lines_of text))
WroteJoined-all old new text rest h none =
    subst (λ l. Appends old new l)
    (sym (h.whole ∙ ap (λ l. h.front ++ joined_behind l) (none_left rest none) ∙ append-nil h.front)) h.written

-- no string, where there is no line
pub joined_none : (old : Option (List ℕ)) (text : List ℕ) → length text ≡ 0 → Appends old old (joined (lines_of text))
joined_none old text none = subst (λ l. Appends old old (joined l)) (sym (none_left text none)) (Appends-same old)

-- the first line, and then the others or a part of them
pub joined_all : {T E : Type 0} (old between new : Option (List ℕ)) (result : Result T E) (text line behind : List ℕ)
    → lines_of text ≡ line ∷ lines_of behind → Appends old between (string_text line)
    → Writes between new result (joined_behind (lines_of behind)) → Writes old new result (joined (lines_of text))
joined_all old between new result text line behind is first others =
    Writes-more old between new result (string_text line) (joined_behind (lines_of behind)) _ first others (ap joined is)

-- a part of the first
pub joined_part : (old new : Option (List ℕ)) (text line behind : List ℕ) → lines_of text ≡ line ∷ lines_of behind
    → WritesPart old new (string_text line) → WritesPart old new (joined (lines_of text))
joined_part old new text line behind is part = WritesPart-front (joined_behind (lines_of behind)) part (ap joined is)
