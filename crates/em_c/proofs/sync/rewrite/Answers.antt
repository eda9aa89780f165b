use Rattle.std.proofs.Common.{◌≡◌, ◌≤◌, ℕ, ◌+◌, ◌-◌, List, length, take, drop, sym, ap, ◌∙◌, subst, arith, rules}
use Rattle.std.proofs.Common.{refl, slice_get}
use mathlib.Core.Bool.{true≢false}
use Rattle.core.specs.Cmp.Lexicographic.{bytes_decides}
use Rattle.em_mem.specs.Memory.{part}
use Rattle.em_mem.proofs.PutLaws.{length-part}
use Rattle.em_journal.specs.View.{View}
use Rattle.em_step.specs.Event.{Event, pokes}
use Rattle.em_c.specs.Difference.{same_at_head, up_to_last}
use Rattle.em_c.specs.Sync.{PerformsAll, memory_of}
use Rattle.em_c.proofs.DifferenceLaws.{first_before_last}
use Rattle.em_c.proofs.SyncLaws.{read_is, put_same, put_between, no_writes, one_write}
use Rattle.em_c.proofs.sync.rewrite.Goals as goal

-- ---- nothing differs

pub returns-then-eq : goal.returns-then-eq
returns-then-eq c =
    let m : List ℕ = memory_of c.args.machine.now in
    let new : List ℕ = c.args.new.now in
    let long : length c.read.new.out ≡ length new = search rules in
    let old = read_is c.machine.result.now.present.memory c.read.new.out c.args.at _ (length new) c.read.ensures long
    ∙ ap (λ (v : View). part v.present.memory c.args.at (length new)) c.machine.ensures in
    let same = (bytes_decides c.read.new.out new).0 (sym c.if-eq.ensures) in
    let none = no_writes c.args.at (part m c.args.at (length new)) new (sym old ∙ same) in
    record {
      count = sym (ap length none);
      few = omega arith;
      performs = subst (λ events. PerformsAll events c.args.machine.now c.args.machine.now) (sym none) refl;
      base = refl;
      memory = sym (put_same m c.args.at new (sym old ∙ same));
    }

-- ---- something differs

pub slice_bounds-run-count : goal.slice_bounds-run-count
slice_bounds-run-count c =
    let differ : c.read.new.out ≡ c.args.new.now → ⊥
    = λ same. true≢false (sym ((bytes_decides c.read.new.out c.args.new.now).1 same) ∙ sym c.if-eq.ensures) in
    let before = first_before_last c.read.new.out c.args.new.now c.same_at_head-first.result c.up_to_last-last.result
    c.same_at_head-first.ensures.same c.up_to_last-last.ensures.same differ in
    omega (arith, before)

pub slice_bounds-run-start : goal.slice_bounds-run-start
slice_bounds-run-start c =
    let differ : c.read.new.out ≡ c.args.new.now → ⊥
    = λ same. true≢false (sym ((bytes_decides c.read.new.out c.args.new.now).1 same) ∙ sym c.if-eq.ensures) in
    let before = first_before_last c.read.new.out c.args.new.now c.same_at_head-first.result c.up_to_last-last.result
    c.same_at_head-first.ensures.same c.up_to_last-last.ensures.same differ in
    omega (arith, before)

pub write-requires-clause-some : goal.write-requires-clause-some
write-requires-clause-some c =
    let differ : c.read.new.out ≡ c.args.new.now → ⊥
    = λ same. true≢false (sym ((bytes_decides c.read.new.out c.args.new.now).1 same) ∙ sym c.if-eq.ensures) in
    let before = first_before_last c.read.new.out c.args.new.now c.same_at_head-first.result c.up_to_last-last.result
    c.same_at_head-first.ensures.same c.up_to_last-last.ensures.same differ in
    let most : c.up_to_last-last.result ≤ length c.args.new.now = c.up_to_last-last.ensures.most in
    let long = length-part c.args.new.now c.same_at_head-first.result (c.up_to_last-last.result - c.same_at_head-first.result)
    (omega (arith, before)) in
    omega (arith, before, long)

-- the write of what lies between the first octet that differs and the last
pub returns-in-Err : goal.returns-in-Err
returns-in-Err c =
    let m : List ℕ = memory_of c.args.machine.now in
    let new : List ℕ = c.args.new.now in
    let f : ℕ = c.same_at_head-first.result in
    let e : ℕ = c.up_to_last-last.result in
    let long : length c.read.new.out ≡ length new = search rules in
    let old = read_is c.machine.result.now.present.memory c.read.new.out c.args.at _ (length new) c.read.ensures long
    ∙ ap (λ (v : View). part v.present.memory c.args.at (length new)) c.machine.ensures in
    let differ : c.read.new.out ≡ c.args.new.now → ⊥
    = λ same. true≢false (sym ((bytes_decides c.read.new.out c.args.new.now).1 same) ∙ sym c.if-eq.ensures) in
    let before = first_before_last c.read.new.out c.args.new.now c.same_at_head-first.result c.up_to_last-last.result
    c.same_at_head-first.ensures.same c.up_to_last-last.ensures.same differ in
    let one = one_write c.args.at (part m c.args.at (length new)) new f e
    (c.same_at_head-first.ensures.count ∙ ap (λ x. same_at_head x new) old)
    (c.up_to_last-last.ensures.count ∙ ap (λ x. up_to_last x new) old) before in
    record {
      only = c.in-Err.ensures.only;
      wanting = record {
        first = pokes (c.args.at + f) (part new f (e - f));
        is_first = ap (λ (events : List Event). slice_get events 0) one;
        refuses = c.in-Err.ensures.wanting;
      };
      same = c.in-Err.ensures.same;
    }

pub returns-in-Ok : goal.returns-in-Ok
returns-in-Ok c =
    let m : List ℕ = memory_of c.args.machine.now in
    let new : List ℕ = c.args.new.now in
    let f : ℕ = c.same_at_head-first.result in
    let e : ℕ = c.up_to_last-last.result in
    let long : length c.read.new.out ≡ length new = search rules in
    let old = read_is c.machine.result.now.present.memory c.read.new.out c.args.at _ (length new) c.read.ensures long
    ∙ ap (λ (v : View). part v.present.memory c.args.at (length new)) c.machine.ensures in
    let differ : c.read.new.out ≡ c.args.new.now → ⊥
    = λ same. true≢false (sym ((bytes_decides c.read.new.out c.args.new.now).1 same) ∙ sym c.if-eq.ensures) in
    let before = first_before_last c.read.new.out c.args.new.now c.same_at_head-first.result c.up_to_last-last.result
    c.same_at_head-first.ensures.same c.up_to_last-last.ensures.same differ in
    let one = one_write c.args.at (part m c.args.at (length new)) new f e
    (c.same_at_head-first.ensures.count ∙ ap (λ x. same_at_head x new) old)
    (c.up_to_last-last.ensures.count ∙ ap (λ x. up_to_last x new) old) before in
    let head : take f (part m c.args.at (length new)) ≡ take f new
    = subst (λ x. take f x ≡ take f new) old c.same_at_head-first.ensures.same in
    let tail : drop e (part m c.args.at (length new)) ≡ drop e new
    = subst (λ x. drop e x ≡ drop e new) old c.up_to_last-last.ensures.same in
    record {
      count = sym (ap length one);
      few = omega arith;
      performs = subst (λ events. PerformsAll events c.args.machine.now c.write.new.machine) (sym one)
          (c.write.new.machine, c.in-Ok.ensures.performs, refl);
      base = c.in-Ok.ensures.base;
      memory = c.in-Ok.ensures.memory
          ∙ put_between m new c.args.at f e c.requires.held.to (omega (arith, before)) c.up_to_last-last.ensures.most head tail;
    }
