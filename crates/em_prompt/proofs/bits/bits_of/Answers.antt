use Rattle.std.proofs.Common.{◌≡◌, Some, None, sym, ap, ◌∙◌}
use Rattle.em_names.specs.Bits.{table_of}
use Rattle.em_prompt.specs.Bits.{bit_among}
use Rattle.em_prompt.proofs.BitsLaws.{bit_of_fields, first_is_none, one_more, last_one}
use Rattle.em_prompt.proofs.bits.bits_of.Goals as goal

pub returns-in-None : goal.returns-in-None
returns-in-None c =
    let name = c.first_name.result.0.now in
    let none : bit_among (table_of c.args.reg) name ≡ None =
    ap (λ rows. bit_among rows name) (sym c.fields-fields.ensures)
    ∙ sym (bit_of_fields c.fields-fields.result.now name) ∙ sym c.bit_among.ensures ∙ c.in-None.is in
    c.loop-bit.invariant
    ∙ first_is_none c.first_name.result.1 c.args.reg c.loop-bit.value c.loop-bit.rest.now name
    c.first_name.ensures.last none

pub loop-bit-smaller : goal.loop-bit-smaller
loop-bit-smaller c = rw c.in-Some-behind.is at c.first_name.ensures.shorter

pub loop-bit-preserved : goal.loop-bit-preserved
loop-bit-preserved c =
    let name = c.first_name.result.0.now in
    let some : bit_among (table_of c.args.reg) name ≡ Some c.in-Some.bit =
    ap (λ rows. bit_among rows name) (sym c.fields-fields.ensures)
    ∙ sym (bit_of_fields c.fields-fields.result.now name) ∙ sym c.bit_among.ensures ∙ c.in-Some.is in
    c.loop-bit.invariant
    ∙ one_more c.args.reg c.loop-bit.value c.in-Some.bit c.loop-bit.rest.now name c.in-Some-behind.behind.now
    (rw c.in-Some-behind.is at c.first_name.ensures.last) some

pub returns-in-None-behind : goal.returns-in-None-behind
returns-in-None-behind c =
    let name = c.first_name.result.0.now in
    let some : bit_among (table_of c.args.reg) name ≡ Some c.in-Some.bit =
    ap (λ rows. bit_among rows name) (sym c.fields-fields.ensures)
    ∙ sym (bit_of_fields c.fields-fields.result.now name) ∙ sym c.bit_among.ensures ∙ c.in-Some.is in
    c.loop-bit.invariant
    ∙ last_one c.args.reg c.loop-bit.value c.in-Some.bit c.loop-bit.rest.now name
    (rw c.in-None-behind.is at c.first_name.ensures.last) some
