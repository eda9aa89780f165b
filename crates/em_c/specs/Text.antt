-- A text in the room that C lends for it.
use Rattle.std.specs.Prelude.{◌≡◌, ◌⊎◌, ℕ, List, [], take}
use Rattle.em_c.specs.declared.text.Text.{Text}

-- what it says so far
abbrev pub said : Text → List ℕ
said text = take text.used text.octets

-- it says this whole, or nothing, where the room is too small
abbrev pub Says : Text → List ℕ → Type 0
Says text whole = (said text ≡ whole) ⊎ (said text ≡ [])
