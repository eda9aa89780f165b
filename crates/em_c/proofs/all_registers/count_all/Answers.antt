use Rattle.std.proofs.Common.{◌≡◌, length, sym, ap, ◌∙◌, arith}
use Rattle.em_c.specs.AllRegisters.{registers_below}
use Rattle.em_c.proofs.RegisterLaws.{none_below, length_next}
use Rattle.em_c.proofs.all_registers.count_all.Goals as goal

pub loop-word-init : goal.loop-word-init
loop-word-init c = record { counted = sym (ap length (none_below c.args.machine.now)); most = omega arith }

pub loop-word-preserved : goal.loop-word-preserved
loop-word-preserved c = record {
  counted = omega (
    arith,
    c.loop-word.invariant.counted,
    c.count_at-count.ensures.count,
    length_next c.loop-word.word c.args.machine.now,
  );
  most = omega (arith, c.loop-word.invariant.most, c.count_at-count.ensures.most);
}

-- as many words as there are
pub returns : goal.returns
returns c =
    let all : c.loop-word.word ≡ 0x1800 = omega (arith, c.loop-word.auto.word-end, c.loop-word-test.false) in
    c.loop-word.invariant.counted ∙ ap (λ n. length (registers_below n c.args.machine.now)) all
