use Rattle.std.proofs.Common.{◌≡◌, ◌∙◌, Bool, true, false, Option, ap, refl, eq-eqb, ne_eqb}
use Rattle.std.specs.Prelude.{if◌then◌else◌}
use Rattle.std.specs.Option.{option_map_or}
use Rattle.em_inspect.specs.declared.extent.Extent.{Extent}
use Rattle.em_inspect.specs.Trouble.{clash}
use Rattle.em_inspect.proofs.ring.SidedRing.is_over.Goals as goal

-- a test that holds, and one that does not
of_true : (test other : Bool) → test ≡ true → false ≡ (if test then false else other)
of_true true other h = refl
of_true false other h = cc

of_false : (test other value : Bool) → test ≡ false → value ≡ other → value ≡ (if test then false else other)
of_false true other value h e = cc
of_false false other value h e = e

pub returns-then-other-index : goal.returns-then-other-index
returns-then-other-index c = of_true _ _ (eq-eqb c.args.other c.args.index c.if-other-index.true)

pub returns-in-Some : goal.returns-in-Some
returns-in-Some c =
    of_false _ _ _ (ne_eqb c.args.other c.args.index c.if-other-index.false)
    (c.clash.ensures
    ∙ ap (λ (o : Option Extent).
    option_map_or (clash c.args.self.now.setup c.args.index c.args.buffer.now c.args.other) o false)
    c.in-Some.ensures)

pub returns-in-None : goal.returns-in-None
returns-in-None c =
    of_false _ _ _ (ne_eqb c.args.other c.args.index c.if-other-index.false)
    (ap (λ (o : Option Extent).
    option_map_or (clash c.args.self.now.setup c.args.index c.args.buffer.now c.args.other) o false)
    c.in-None.ensures)
