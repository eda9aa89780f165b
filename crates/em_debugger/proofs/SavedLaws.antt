-- Lines that are saved as a script, and read.
use Rattle.std.proofs.Common.{◌≡◌, ◌∙◌, ◌<◌, List, ℕ, [], ◌∷◌, append_assoc, ap, arith, codes, length, refl}
use Rattle.std.specs.List.{AllByRecursion, slice_split}
use Rattle.std.proofs.lemmas.List.Splits.{length-slice_split, slice_split_at}
use Rattle.em_text.specs.Lines.{is_newline, lines_of, without_empty_last}
use Rattle.em_debugger.specs.Files.{IsOneLine, script_of}

before_others : (line : List ℕ) (parts : List (List ℕ)) → 0 < length parts
    → without_empty_last (line ∷ parts) ≡ line ∷ without_empty_last parts
before_others line [] some = absurd (omega arith)
before_others line (part ∷ parts) some = refl

pub saved_read : (lines : List (List ℕ)) → AllByRecursion IsOneLine lines → lines_of (script_of lines) ≡ lines
unfolding lines_of
saved_read [] h = refl
saved_read (line ∷ lines) h =
    let rest = script_of lines in
    let some = length-slice_split is_newline rest in
    ap lines_of (append_assoc line (codes "\n") rest)
    ∙ ap without_empty_last (slice_split_at is_newline line 10 rest h.0 refl)
    ∙ before_others line (slice_split is_newline rest) (omega (arith, some)) ∙ ap (λ l. line ∷ l) (saved_read lines h.1)
