use Rattle.std.proofs.Common.{refl}
use Rattle.hex.specs.Hex.{encode_with}
use Rattle.em_kept.proofs.digits.word_digits.Goals as goal

pub returns : goal.returns
unfolding encode_with
returns c =
    rw (c.octet_digits.ensures, c.octet_digits-2.ensures, c.to_be_bytes.ensures) refl
