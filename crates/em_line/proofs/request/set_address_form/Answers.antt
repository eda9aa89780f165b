use Rattle.std.proofs.Common.{ap, sym, rules}
use Rattle.std.specs.Option.{option_map}
use Rattle.std.proofs.lemmas.Result.{MatchResult-from_err}
use Rattle.em_line.specs.Request.{sets_address}
use Rattle.em_line.proofs.RequestLemmas.{not_address, some_address, octets_are_six}
use Rattle.em_line.proofs.request.set_address_form.Goals as goal

pub returns-then-digits-ne-ADDRESS_DIGITS-clause-value : goal.returns-then-digits-ne-ADDRESS_DIGITS-clause-value
returns-then-digits-ne-ADDRESS_DIGITS-clause-value c =
    ap (option_map (λ octets. sets_address octets)) (sym (not_address c.args.digits.now (search rules)))

pub returns-in_err-octets_into-clause-memory : goal.returns-in_err-octets_into-clause-memory
returns-in_err-octets_into-clause-memory c =
    MatchResult-from_err _ _ _ c.from_residual.ensures.0 (λ _.
    some_address c.args.digits.now c.in_err-octets_into.ensures.digits (search rules))

pub copy_from_slice-requires : goal.copy_from_slice-requires
copy_from_slice-requires c =
    rw (c.as_slice.ensures.value)
    (sym (octets_are_six c.args.digits.now c.octets_into.new.octets.items (search rules) (search rules)))
