use Rattle.std.proofs.Common.{◌≡◌, ◌+◌, ◌*◌, ◌%◌, ◌-◌, ◌∙◌, arith, eqb, sym, subst, w8}
use Rattle.std.specs.Prelude.{slice_index, slice_set, ◌==◌}
use Rattle.std.proofs.lemmas.List.{get_or-set_same, get_or-set_other, length-set}
use Rattle.std.proofs.lemmas.Bool.{eqb-true}
use Rattle.std.proofs.lemmas.Simd.{bitmask_splat}
use Rattle.em_text.proofs.DigitsLemmas.{none_passes}
use Rattle.em_text.proofs.FrontLemmas.{below_next}
use Rattle.em_text.proofs.NumbersLemmas.{value_pair}
use Rattle.em_text.specs.Numbers.{IsPair}
use Rattle.em_text.proofs.numbers.decode.Goals as goal

pub loop-i-preserved : goal.loop-i-preserved
loop-i-preserved g c =
    let octets = c.loop-i.octets in
    let i = c.loop-i.i in
    let at = c.args.done + i in
    let lanes = c.hex_values-lanes.result in
    let octet = (slice_index lanes (2 * i) * 16 % 256 + slice_index lanes (2 * i + 1)) % 256 in
    record {
      long = length-set octets at octet ∙ c.loop-i.invariant.long;
      before = λ k lt. get_or-set_other octets at k octet 0 (omega arith) ∙ c.loop-i.invariant.before k lt;
      are = below_next
          (λ k. slice_index (slice_set octets at octet) (c.args.done + k)
          ≡ (slice_index lanes (2 * k) * 16 % 256 + slice_index lanes (2 * k + 1)) % 256) i
          (λ k lt. get_or-set_other octets at (c.args.done + k) octet 0 (omega arith) ∙ c.loop-i.invariant.are k lt)
          (get_or-set_same octets at octet 0 (omega arith));
    }

pub returns-clause-good : goal.returns-clause-good
returns-clause-good g c good k low lt =
    let lanes = c.hex_values-lanes.result in
    let n = g.row.D in
    let none = sym (bitmask_splat w8 eqb lanes n 16 c.loop-i.auto.lanes.0 c.requires.few) ∙ eqb-true _ _ good in
    let j = k - c.args.done in
    let at : c.args.done + j ≡ k = omega arith in
    let pair = value_pair c.args.text.now lanes c.args.done j n (omega arith) c.hex_values-lanes.ensures
    (none_passes (λ x. x == 16) lanes none (2 * j) (omega arith))
    (none_passes (λ x. x == 16) lanes none (2 * j + 1) (omega arith)) in
    subst (λ m. IsPair c.args.text.now m (slice_index c.loop-i.octets m)) at
    (rw (c.loop-i.invariant.are j (omega arith)) pair)
