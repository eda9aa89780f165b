-- Where engines stand still, it does not matter how many events stood before a line.
use Rattle.std.proofs.Common.{◌≡◌, ◌<◌, ◌==◌, ◌||◌, ℕ, Bool, true, false, Option, None, ap, arith, length, refl, subst, sym, ◌∙◌}
use Rattle.std.specs.Prelude.{if◌then◌else◌, nat_lt}
use Rattle.std.proofs.lemmas.Bool.Decides.{nat_tests}
use Rattle.em_prompt.specs.declared.typed.Side.{Side}
use Rattle.em_debugger.specs.declared.debugger.Debugger.{Debugger}
use Rattle.em_debugger.specs.declared.performing.Performed.{Performed}
use Rattle.em_debugger.specs.Engines.{Engages, EngagesBy, engine_behind}

none_there : (x y : Bool) (o : Option Side) → x ≡ true → (if x || y then None else o) ≡ None
none_there x y o e = ap (λ z. if z || y then None else o) e

same_by : (b c : ℕ) (p : Performed) (d : Debugger) (still : Bool) → (d.engines == 0) ≡ still
    → (0 < d.engines → b ≡ c) → engine_behind b p d ≡ engine_behind c p d
same_by b c p d true e same =
    none_there (d.engines == 0) (nat_lt d.tape.whole (length d.tape.did)) _ e
    ∙ sym (none_there (d.engines == 0) (nat_lt d.tape.whole (length d.tape.did)) _ e)
same_by b c p d false e same = ap (λ n. engine_behind n p d) (same (grind (arith, nat_tests, e)))

pub engages_so : (b c : ℕ) (p : Performed) (old new : Debugger) → (0 < old.engines → b ≡ c) → Engages b p old new
    → Engages c p old new
engages_so b c p old new same is = subst (λ o. EngagesBy o old new) (same_by b c p old _ refl same) is
