use Rattle.std.proofs.Common.{refl}
use Rattle.hex.specs.Hex.{encode_with}
use Rattle.em_kept.proofs.digits.address_digits.Goals as goal

pub returns : goal.returns
unfolding encode_with
returns c =
    rw (
      c.octet_digits.ensures,
      c.octet_digits-2.ensures,
      c.octet_digits-3.ensures,
      c.octet_digits-4.ensures,
      c.octet_digits-5.ensures,
      c.octet_digits-6.ensures,
      c.octet_digits-7.ensures,
      c.octet_digits-8.ensures,
      c.to_be_bytes.ensures,
    ) refl
