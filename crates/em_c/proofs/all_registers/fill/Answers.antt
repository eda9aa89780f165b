use Rattle.std.proofs.Common.{◌≡◌, ◌+◌, ◌*◌, ◌≤◌, ◌++◌, List, length, drop, sym, ap, ◌∙◌, arith}
use Rattle.em_c.specs.AllRegisters.{put_at, registers_below, shown}
use Rattle.em_c.specs.Looks.{value_at}
use Rattle.em_c.specs.declared.all_registers.EmRegister.{EmRegister}
use Rattle.em_c.proofs.RegisterLaws.{none_below, fewer_below, length_next, length_filled, filled_next}
use Rattle.em_c.proofs.all_registers.fill.Goals as goal

pub loop-word-init : goal.loop-word-init
loop-word-init c =
    let none = none_below c.args.machine.now in
    record {
      counted = sym (ap length none);
      filled = sym (ap (λ (rs : List EmRegister). rs ++ drop (length rs) c.args.out.now) none);
    }

-- those of the next word are among all, for which there is room
pub put_shown-at-requires : goal.put_shown-at-requires
put_shown-at-requires c =
    let among = fewer_below (c.loop-word.word + 1) 0x1800 c.args.machine.now (omega (arith, c.loop-word-test.true)) in
    let next = length_next c.loop-word.word c.args.machine.now in
    let long = ap length c.loop-word.invariant.filled
    ∙ length_filled (registers_below c.loop-word.word c.args.machine.now) c.args.out.now
    (omega (arith, among, c.requires, next)) in
    omega (arith, among, c.requires, c.loop-word.invariant.counted, next, long)

pub loop-word-preserved : goal.loop-word-preserved
loop-word-preserved c =
    let v = c.args.machine.now in
    let k = c.loop-word.word in
    let among = fewer_below (k + 1) 0x1800 v (omega (arith, c.loop-word-test.true)) in
    let room : length (registers_below (k + 1) v) ≤ length c.args.out.now = omega (arith, among, c.requires) in
    record {
      counted = omega (arith, c.put_shown-at.ensures.next, c.loop-word.invariant.counted, length_next k v);
      filled = c.put_shown-at.ensures.put
          ∙ ap (λ n. put_at n (shown (4 * k) (value_at (4 * k) v)) c.loop-word.out) c.loop-word.invariant.counted
          ∙ ap (put_at (length (registers_below k v)) (shown (4 * k) (value_at (4 * k) v))) c.loop-word.invariant.filled
          ∙ filled_next k v c.args.out.now room;
    }

pub returns : goal.returns
returns c =
    let all : c.loop-word.word ≡ 0x1800 = omega (arith, c.loop-word.auto.word-end, c.loop-word-test.false) in
    c.loop-word.invariant.filled
    ∙ ap (λ n. registers_below n c.args.machine.now ++ drop (length (registers_below n c.args.machine.now)) c.args.out.now)
    all
