use Rattle.std.proofs.Common.{◌≡◌, ℕ, Bool, true, false, cond, List, [], ◌∷◌, Some, refl}
use Rattle.std.specs.Prelude.{IfSome, find}
use Rattle.em_prompt.specs.Nowhere.{is_meant}
use Rattle.em_regs.specs.declared.reg.Reg.{Reg}
use Rattle.em_debugger.proofs.nowhere.meant_of.Goals as goal

-- what is found passes the test
found_so : (word : List ℕ) (near : List Reg)
    → IfSome (find (λ reg. is_meant word reg) near) (λ reg. is_meant word reg ≡ true)
found_so word [] = tt
found_so word (reg ∷ near) = by_test (is_meant word reg) refl (found_so word near) where
  by_test : (b : Bool) → is_meant word reg ≡ b
      → IfSome (find (λ reg. is_meant word reg) near) (λ reg. is_meant word reg ≡ true)
      → IfSome (cond b (Some reg) (find (λ reg. is_meant word reg) near)) (λ reg. is_meant word reg ≡ true)
  by_test true is rest = is
  by_test false is rest = rest

pub returns : goal.returns
returns c = rw c.meant.ensures (found_so c.args.letters.now c.args.near)
