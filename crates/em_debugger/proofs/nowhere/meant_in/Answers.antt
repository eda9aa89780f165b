use Rattle.std.proofs.Common.{◌≡◌, ◌∙◌, ℕ, true, List, subst}
use Rattle.std.specs.Prelude.{IfSome}
use Rattle.em_prompt.specs.Nowhere.{is_meant}
use Rattle.em_debugger.proofs.nowhere.meant_in.Goals as goal

pub returns-in-Ok : goal.returns-in-Ok
returns-in-Ok c =
    subst (λ (text : List ℕ). IfSome c.meant_of.result (λ reg. is_meant text reg ≡ true))
    (c.as_slice.ensures.value ∙ c.in-Ok.ensures.ok) c.meant_of.ensures
