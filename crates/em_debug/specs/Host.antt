-- What is done with the host's files, as far as their octets are known. Which file it is that a name opens is the host's.
use Rattle.std.specs.Prelude.{◌≡◌, ℕ, false, List, Option, ⊤}
use Rattle.std.specs.Io.KnownBytes.{Appends, Consumes, IsAtEnd}
use Rattle.em_debugger.specs.Disk.{Deed, Read, Made, Replaced, Refused}
use Rattle.em_input.specs.Script.{is_compressed}

-- these octets are all that an open file had
abbrev pub Gives : {F : Type 0} → (F → Option (List ℕ)) → List ℕ → Type 0
Gives {F} remaining text =
    (before : F) × (after : F) × Consumes (remaining before) (remaining after) text × IsAtEnd (remaining after)

-- an open file got these octets, and no more
abbrev pub Takes : {F : Type 0} → (F → Option (List ℕ)) → List ℕ → Type 0
Takes {F} contents text = (before : F) × (after : F) × Appends (contents before) (contents after) text

-- by what is still to be read of an open file, and what was written to it; what gzip wrote is not read
abbrev pub Does : {F : Type 0} → (F → Option (List ℕ)) → (F → Option (List ℕ)) → Deed → Type 0
Does remaining contents (Read name text) = Gives remaining text × (is_compressed text ≡ false)
Does remaining contents (Made name text) = Takes contents text
Does remaining contents (Replaced name text) = Takes contents text
Does remaining contents (Refused name fault) = ⊤
