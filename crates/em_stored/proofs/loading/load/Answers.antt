use Rattle.std.proofs.Common.{rules, ◌≡◌, ◌<◌, ◌^◌, ◌∙◌, List, ℕ, arith, length, subst, sym}
use Rattle.std.proofs.lemmas.Grind.{common_steps}
use Rattle.em_stored.specs.Stored.{stored}
use Rattle.em_stored.proofs.StoredLaws.{stored_is_one}
use Rattle.em_stored.proofs.loading.load.Goals as goal

pub returns-clause-same : goal.returns-clause-same
returns-clause-same c h b s h_fits is_machine of =
    let handed = c.in-Ok.made.1 in
    let made = c.in-Ok.made.0 in
    let is : c.args.octets.now ≡ stored handed made.budget made.present
    = first_of (search rules, grind (arith, common_steps)) in
    let few : length c.args.octets.now < 2 ^ 64 = omega arith in
    stored_is_one handed made.budget made.present h b s c.in_ok-again.ensures.machine is_machine
    c.number_fits.ensures h_fits (subst (λ (octets : List ℕ). length octets < 2 ^ 64) is few) (sym is ∙ of)
