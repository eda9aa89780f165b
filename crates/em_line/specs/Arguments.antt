-- The words behind a command's name, by how many they are.
use Rattle.std.specs.Prelude.{ℕ, List, [], ◌∷◌}
use Rattle.em_line.specs.declared.arguments.Arguments.{Arguments as Lent}
use Rattle.em_line.specs.declared.arguments.Arguments.TheVariants as lent

pub data Arguments : Type 0 where
  zero : Arguments
  one : List ℕ → Arguments
  two : List ℕ → List ℕ → Arguments
  more : Arguments

abbrev pub arguments_of : List (List ℕ) → Arguments
arguments_of [] = zero
arguments_of (a ∷ []) = one a
arguments_of (a ∷ b ∷ []) = two a b
arguments_of (a ∷ b ∷ c ∷ words) = more

-- the arguments without where they lie in memory
abbrev pub plain : Lent → Arguments
plain lent.Zero = zero
plain (lent.One a) = one a.now
plain (lent.Two a b) = two a.now b.now
plain lent.More = more
