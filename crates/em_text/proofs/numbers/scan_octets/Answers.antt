use Rattle.std.proofs.Common.{◌+◌, ◌*◌, ◌∙◌, arith, rules, inl, inr}
use Rattle.std.proofs.lemmas.List.{length-set}
use Rattle.em_text.specs.Numbers.{ArePairs}
use Rattle.em_text.proofs.numbers.scan_octets.Goals.{then-loop-octets-test+else-decode, else-loop-octets-test}
use Rattle.em_text.proofs.NumbersLemmas.{ArePairs-more}
use Rattle.em_text.proofs.OctetsLemmas.{front_octets, front_no_octets, pairs_joined}
use Rattle.em_text.proofs.numbers.scan_octets.Goals as goal
use Rattle.em_text.proofs.numbers.scan_octets.Goals.{else-loop-done-test, then-loop-done-test+then-high-ge-HEX}
use Rattle.em_text.proofs.numbers.scan_octets.Goals.{then-high-ge-HEX-via-then-high-ge-HEX}
use Rattle.em_text.proofs.numbers.scan_octets.Goals.{then-high-ge-HEX-via-else-high-ge-HEX+then-low-ge-HEX}
use Rattle.em_text.proofs.numbers.scan_octets.Goals.{then-done-eq0-via-then-done-eq0}
use Rattle.em_text.proofs.numbers.scan_octets.Goals.{then-done-eq0-via-else-done-eq0+then-not-is_blank}
use Rattle.em_text.proofs.numbers.scan_octets.Goals.{then-len-text, else-len-text}

pub loop-done-preserved : goal.loop-done-preserved
loop-done-preserved c =
    let octets = c.loop-done.octets in
    let done = c.loop-done.done in
    let octet = c.value_of-high.result * 16 + c.value_of-low.result in
    record {
      long = length-set octets done octet ∙ c.loop-done.invariant.long;
      within = omega arith;
      pairs = ArePairs-more c.args.text.now octets 0 done octet (omega arith)
          record {
            high = omega (arith, c.value_of-high.ensures);
            low = omega (arith, c.value_of-low.ensures);
            value = omega (arith, c.value_of-high.ensures, c.value_of-low.ensures);
          }
          c.loop-done.invariant.pairs;
    }

pub returns-then-done-eq0-clause-none : goal.returns-then-done-eq0-clause-none
returns-then-done-eq0-clause-none c = λ _.
    let text = c.args.text.now in
    let done = c.loop-done.done in
    front_no_octets text c.loop-done.octets done c.loop-done.invariant.pairs
    (elim c.loop-done-test.branch [
      | else-loop-done-test w ↦ λ more high low. absurd (omega arith)
      | then-loop-done-test+then-high-ge-HEX w ↦ λ more high low.
          elim w.then-high-ge-HEX.branch [
            | then-high-ge-HEX-via-then-high-ge-HEX u ↦ absurd (omega (arith, w.value_of-high.ensures))
            | then-high-ge-HEX-via-else-high-ge-HEX+then-low-ge-HEX u ↦ absurd (omega (arith, w.value_of-low.ensures))
          ]
    ])
    (elim c.then-done-eq0.branch [
      | then-done-eq0-via-then-done-eq0 w ↦ inl w.if-done-eq0.true
      | then-done-eq0-via-else-done-eq0+then-not-is_blank w ↦
          elim w.if-len-text.branch [
            | then-len-text u ↦ inr (u.if-len-text.true, search rules)
            | else-len-text u ↦ absurd (search rules)
          ]
    ])

pub returns-clause-some : goal.returns-clause-some
returns-clause-some c =
    front_octets c.args.text.now c.loop-done.octets c.loop-done.done (omega arith) (omega arith) (omega arith)
    c.loop-done.invariant.pairs
    (elim c.if-len-text.branch [
      | then-len-text w ↦ λ lt. search rules
      | else-len-text w ↦ λ lt. absurd (search rules)
    ])

pub loop-done-init : goal.loop-done-init
loop-done-init c =
    let text = c.args.text.now in
    let from = c.loop-octets.done in
    let half = c.decode_if-done in
    let quarter = c.decode_if-done-2 in
    let pairs = c.loop-octets.invariant.pairs in
    let start : ArePairs text c.loop-octets-test.octets 0 from =
    elim c.loop-octets-test.branch [
      | then-loop-octets-test+else-decode w ↦
          rw (w.octets-is) (pairs_joined text c.loop-octets.octets w.decode.new.octets from from pairs
          w.decode.ensures.before (λ k low lt. absurd (omega arith)))
      | else-loop-octets-test w ↦ rw (w.octets-is) pairs
    ] in
    let first = pairs_joined text c.loop-octets-test.octets half.new.octets from (from + half.result) start
    half.ensures.before half.ensures.good in
    record {
      long = quarter.auto.octets ∙ half.auto.octets ∙ c.loop-octets-test.auto.octets ∙ c.loop-octets.invariant.long;
      within = quarter.ensures.within;
      pairs = pairs_joined text half.new.octets quarter.new.octets (from + half.result)
          (from + half.result + quarter.result) first quarter.ensures.before quarter.ensures.good;
    }
