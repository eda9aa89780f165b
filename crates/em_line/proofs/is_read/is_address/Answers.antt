use Rattle.std.proofs.Common.{◌≡◌, ◌∙◌, false, length, rules, arith}
use Rattle.std.proofs.lemmas.Bool.Decides.{nat_tests}
use Rattle.std.specs.Prelude.{nat_eq}
use Rattle.em_line.proofs.RequestLemmas.{address_is_read, no_address_is_read}
use Rattle.em_line.proofs.is_read.is_address.Goals as goal

pub returns-then-digits-eq-ADDRESS_DIGITS : goal.returns-then-digits-eq-ADDRESS_DIGITS
returns-then-digits-eq-ADDRESS_DIGITS c =
    address_is_read c.args.digits.now c.is_octets.result (search rules) c.is_octets.ensures

pub returns-else-digits-eq-ADDRESS_DIGITS : goal.returns-else-digits-eq-ADDRESS_DIGITS
returns-else-digits-eq-ADDRESS_DIGITS c =
    let no : nat_eq (length c.args.digits.now) 12 ≡ false = grind (arith, nat_tests, c.if-digits-eq-ADDRESS_DIGITS.false) in
    no ∙ no_address_is_read c.args.digits.now c.if-digits-eq-ADDRESS_DIGITS.false
