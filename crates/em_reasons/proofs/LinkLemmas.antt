-- LU of STATUS tells the link.
use Rattle.std.proofs.Common.{◌≡◌, ◌∙◌, ℕ, Bool, true, false, refl, sym, arith}
use Rattle.std.specs.Prelude.{bit_and}
use Rattle.em_regs.specs.declared.profile.Profile.{Profile}
use Rattle.em_regs.specs.declared.profile.Profile.TheVariants.{Table, Adapter}
use Rattle.em_step.specs.State.{status_of}

abbrev up_by : Profile → Bool → ℕ
up_by p up = bit_and (status_of p up) 0x2

abbrev lu : Bool → ℕ
lu true = 0x2
lu false = 0

up_alone : (p : Profile) (up : Bool) → up_by p up ≡ lu up
up_alone Table true = refl
up_alone Table false = refl
up_alone Adapter true = refl
up_alone Adapter false = refl

alike : (a b : Bool) → lu a ≡ lu b → a ≡ b
alike true true h = refl
alike true false h = absurd (omega arith)
alike false true h = absurd (omega arith)
alike false false h = refl

pub link_same : (p q : Profile) (a b : Bool) → up_by p a ≡ up_by q b → a ≡ b
link_same p q a b h = alike a b (sym (up_alone p a) ∙ h ∙ up_alone q b)
