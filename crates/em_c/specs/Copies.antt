-- When a machine is copied.
use Rattle.std.specs.Prelude.{◌≡◌, ℕ, Option, Some, None}
use Rattle.em_c.specs.declared.refused.Refused.{Refused}
use Rattle.em_c.specs.declared.refused.Refused.TheVariants.{HasMachine, Memory, NoMachine}
use Rattle.em_c.specs.declared.tagged.Tagged.{Tagged}
use Rattle.em_c.specs.Refused.{number_of}

-- why no copy is made of what is held
abbrev pub IsWhy : Option Tagged → Refused → Type 0
IsWhy None refused = refused ≡ NoMachine
IsWhy (Some t) refused = refused ≡ Memory

-- What one handle holds, another one holds then too: a machine that is equal in all that the first one shows, in its
-- journal and its notes. Or the number of the reason is given, and none is held there; a handle that holds a machine
-- keeps it.
abbrev pub Copies : Option Tagged → Option Tagged → ℕ → Option Tagged → Type 0
Copies held (Some t) code after = (code ≡ number_of HasMachine) × (after ≡ Some t)
Copies None None code after = (code ≡ number_of NoMachine) × (after ≡ None)
Copies (Some t) None code (Some copy) = (code ≡ 0) × (copy ≡ t)
Copies (Some t) None code None = code ≡ number_of Memory
