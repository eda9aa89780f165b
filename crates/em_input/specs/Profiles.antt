-- The profiles as the words of a command line name them.
use Rattle.std.specs.Prelude.{ℕ, if◌then◌else◌, List, codes, Option, Some, None}
use Rattle.std.specs.Str.{bytes_eq}
use Rattle.em_regs.specs.declared.profile.Profile.{Profile}
use Rattle.em_regs.specs.declared.profile.Profile.TheVariants.{Table, Adapter}

-- no other word names one
abbrev pub profile_of : List ℕ → Option Profile
profile_of word =
    if bytes_eq word (codes "table") then Some Table else
    if bytes_eq word (codes "adapter") then Some Adapter else
    None
