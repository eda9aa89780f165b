use Rattle.std.proofs.Common.{◌-◌, length, refl, sym, ap, ◌∙◌, arith}
use Rattle.std.proofs.lemmas.List.{length-take-le}
use Rattle.std.proofs.Math.Seq.{take-length}
use Rattle.circular_buffer.specs.Buffer.{buffer}
use Rattle.em_journal.specs.Records.{costs_by}
use Rattle.em_journal.proofs.BudgetLaws.{sum_some, length-costs_by, reach_length, reach_less}
use Rattle.em_journal.proofs.BudgetLaws.{left_after_drop, left_is_reach}
use Rattle.em_journal.proofs.records.drop_oldest.Goals as goal

pub drop_one-used-requires : goal.drop_one-used-requires
drop_one-used-requires c = sum_some c.loop-used.records.items c.args.room (omega arith)

pub loop-used-init : goal.loop-used-init
loop-used-init c =
    let rs = c.args.records.now.items in
    record {
      kept = sym (take-length rs);
      places = refl;
      reached = omega (arith, reach_length c.args.room (costs_by rs), length-costs_by rs);
      short = omega arith;
      counted = c.requires;
      same = refl;
    }

pub loop-used-preserved : goal.loop-used-preserved
loop-used-preserved c =
    let old = c.loop-used.records.items in
    let items = ap (λ b. b.items) c.drop_one-used.ensures.items in
    let len = ap length items ∙ length-take-le (length old - 1) old (omega arith) in
    let here = c.loop-used.invariant in
    let less = reach_less c.args.room c.args.records.now.items old here.kept here.reached (omega arith) in
    record {
      kept = left_after_drop c.args.records.now.items old c.loop-used.invariant.kept items;
      places = ap (λ b. b.capacity) c.drop_one-used.ensures.items ∙ c.loop-used.invariant.places;
      reached = omega (arith, less, len);
      short = omega (arith, len);
      counted = omega arith;
      same = c.drop_one-used.ensures.same ∙ c.loop-used.invariant.same;
    }

pub returns-clause-items : goal.returns-clause-items
returns-clause-items c =
    let here = c.loop-used.invariant in
    let items = left_is_reach c.args.room c.args.records.now.items c.loop-used.records.items
    here.kept here.reached here.short (omega arith) in
    λ i. buffer (items i) (here.places i)
