-- What a call of the driver did: its course as it is played, or, where memory was refused, what is named.
use Rattle.std.specs.Prelude.{◌≡◌, Bool, true, Option, Some, None}
use Rattle.em_driver.specs.World.{World}
use Rattle.em_driver.specs.Course.{Course, Follows}
use Rattle.em_driver.specs.Play.{Played, play, wants_memory}

abbrev pub happened : {A : Type 0} → Option (Played A) → World → Course A → Played A
happened None w course = play w course
happened (Some named) w course = named

-- What is named follows the course, and memory was refused to it or to a turn.
abbrev pub CanHappen : {A : Type 0} → (A → Bool) → Option (Played A) → World → Course A → Type 0
CanHappen says None w course = Unit {0}
CanHappen says (Some named) w course =
    Follows w course named.events named.answer named.world × (wants_memory says named.answer named.world ≡ true)

-- a call with this course did so
pub record Happens {A : Type 0} (says : A → Bool) (w : World) (course : Course A) (did : Played A) : Type 0 where
  pub named : Option (Played A)
  pub can : CanHappen says named w course
  pub is : did ≡ happened named w course
