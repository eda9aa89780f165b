use Rattle.std.proofs.Common.{◌≡◌, ◌≤◌, ℕ, ◌+◌, ◌-◌, ◌++◌, List, [], length, take, drop, sym, ap, ◌∙◌, subst, arith, length-append}
use Rattle.std.proofs.lemmas.List.{length-drop, take_all}
use Rattle.em_mem.specs.Memory.{part, put}
use Rattle.em_mem.proofs.PutLaws.{length-part, length-put}
use Rattle.em_step.specs.Event.{Event}
use Rattle.em_journal.specs.View.{View}
use Rattle.em_c.specs.Sync.{PerformsAll, IsWanting, memory_of, rewrites, writes_of, writes_from, pages}
use Rattle.em_c.specs.Tagged.{present_of}
use Rattle.em_c.proofs.SyncLaws.{left_next, no_pages, put_behind, take_next, drop_next, performs_more, wanting_more}
use Rattle.em_c.proofs.SyncLaws.{synced_page, behind_page}
use Rattle.em_c.proofs.sync.sync_pages.Goals as goal

pub loop-at-preserved : goal.loop-at-preserved
loop-at-preserved c =
    let b : ℕ = (present_of c.args.machine.now).base in
    let base : c.memory_base-base.result ≡ b = c.memory_base-base.ensures ∙ ap (λ (v : View). v.present.base) c.machine.ensures in
    let whole : List ℕ = memory_of c.loop-at.machine in
    let m : List ℕ = drop b whole in
    let w : List ℕ = c.args.ram.now in
    let at : ℕ = c.loop-at.at in
    let k : ℕ = c.min.result in
    let all : List Event = writes_of c.args.machine.now w in
    let same_size : length m ≡ length w = length-drop b whole ∙ omega (arith, c.loop-at.invariant.size) in
    let new : List ℕ = part w at (at + k - at) in
    let inside : at + k ≤ length w = omega (arith, c.min.ensures, c.loop-at-test.true) in
    let is : new ≡ part w at k = ap (part w at) (omega arith) in
    let writes : List Event = rewrites c.loop-at.machine (b + at) new in
    let rest : List Event
    = writes_from (pages (length w - (at + k))) (b + (at + k)) (drop (at + k) m) (drop (at + k) w) in
    let left : drop c.loop-at.count all ≡ writes ++ rest
    = left_next all b whole w c.loop-at.count at k same_size c.loop-at-test.true c.min.ensures
    c.loop-at.invariant.left in
    let there : ℕ → List ℕ → List ℕ = λ x d. put whole x d in
    let placed : memory_of c.sync_page.new.machine ≡ put whole (b + at) (part w at k)
    = c.in-Ok.ensures.memory ∙ (λ i. there (base i + at) (is i)) in
    let written : drop b (memory_of c.sync_page.new.machine) ≡ put m at (part w at k)
    = ap (drop b) placed ∙ put_behind b whole at (part w at k) (omega (arith, c.loop-at.invariant.size)) in
    let counts : length all - c.loop-at.count ≡ length writes + length rest
    = sym (length-drop c.loop-at.count all) ∙ ap length left ∙ length-append writes rest in
    let one : c.in-Ok.more ≡ length writes
    = c.in-Ok.ensures.count ∙ ap (λ x. length (rewrites c.loop-at.machine (x + at) new)) base in
    let made : PerformsAll writes c.loop-at.machine c.sync_page.new.machine
    = subst (λ x. PerformsAll (rewrites c.loop-at.machine (x + at) new) c.loop-at.machine c.sync_page.new.machine) base
    c.in-Ok.ensures.performs in
    record {
      within = inside;
      few = omega (arith, c.min.ensures, c.loop-at.invariant.few, c.in-Ok.ensures.few, c.loop-at-test.true);
      begins = c.in-Ok.ensures.base ∙ c.loop-at.invariant.begins;
      size = omega (
        arith,
        ap length placed,
        c.loop-at.invariant.size,
        inside,
        length-put whole (b + at) (part w at k) (omega (arith, length-part w at k inside, c.loop-at.invariant.size)),
      );
      so_far = synced_page m w (drop b (memory_of c.sync_page.new.machine)) at k same_size inside
          c.loop-at.invariant.so_far written;
      counted = omega (arith, counts, one, c.loop-at.invariant.counted);
      made = subst (λ j. PerformsAll (take (c.loop-at.count + j) all) c.args.machine.now c.sync_page.new.machine) (sym one)
          (subst (λ x. PerformsAll x c.args.machine.now c.sync_page.new.machine)
          (sym (take_next all writes rest c.loop-at.count c.loop-at.invariant.counted left))
          (performs_more (take c.loop-at.count all) writes c.args.machine.now c.loop-at.machine c.sync_page.new.machine
          c.loop-at.invariant.made made));
      left = ap (λ j. drop (c.loop-at.count + j) all) one ∙ drop_next all writes rest c.loop-at.count left
          ∙ ap (λ x. writes_from (pages (length w - (at + k))) (b + (at + k)) x (drop (at + k) w))
          (sym (behind_page m w (drop b (memory_of c.sync_page.new.machine)) at k same_size inside written));
    }

-- the first write of the page was refused
pub returns-in-Err : goal.returns-in-Err
returns-in-Err c =
    let b : ℕ = (present_of c.args.machine.now).base in
    let base : c.memory_base-base.result ≡ b = c.memory_base-base.ensures ∙ ap (λ (v : View). v.present.base) c.machine.ensures in
    let whole : List ℕ = memory_of c.loop-at.machine in
    let m : List ℕ = drop b whole in
    let w : List ℕ = c.args.ram.now in
    let at : ℕ = c.loop-at.at in
    let k : ℕ = c.min.result in
    let all : List Event = writes_of c.args.machine.now w in
    let same_size : length m ≡ length w = length-drop b whole ∙ omega (arith, c.loop-at.invariant.size) in
    let new : List ℕ = part w at (at + k - at) in
    let writes : List Event = rewrites c.loop-at.machine (b + at) new in
    let rest : List Event
    = writes_from (pages (length w - (at + k))) (b + (at + k)) (drop (at + k) m) (drop (at + k) w) in
    let left : drop c.loop-at.count all ≡ writes ++ rest
    = left_next all b whole w c.loop-at.count at k same_size c.loop-at-test.true c.min.ensures
    c.loop-at.invariant.left in
    let same : c.sync_page.new.machine ≡ c.loop-at.machine = c.in-Err.ensures.same in
    let wanting : IsWanting c.loop-at.machine writes
    = subst (λ x. IsWanting c.loop-at.machine (rewrites c.loop-at.machine (x + at) new)) base c.in-Err.ensures.wanting in (
      omega (arith, c.requires),
      subst (PerformsAll (take c.loop-at.count all) c.args.machine.now) (sym same) c.loop-at.invariant.made,
      subst (λ u. IsWanting u (drop c.loop-at.count all)) (sym same)
          (subst (IsWanting c.loop-at.machine) (sym left)
          (wanting_more c.loop-at.machine writes rest wanting)),
    )

-- all pages were made the caller's
pub returns : goal.returns
returns c =
    let b : ℕ = (present_of c.args.machine.now).base in
    let whole : List ℕ = memory_of c.loop-at.machine in
    let m : List ℕ = drop b whole in
    let w : List ℕ = c.args.ram.now in
    let at : ℕ = c.loop-at.at in
    let all : List Event = writes_of c.args.machine.now w in
    let same_size : length m ≡ length w = length-drop b whole ∙ omega (arith, c.loop-at.invariant.size) in
    let end : length w ≤ at = c.loop-at-test.false in
    let none : drop c.loop-at.count all ≡ []
    = c.loop-at.invariant.left ∙ no_pages (pages (length w - at)) (b + at) (drop at m) (drop at w) (omega (arith, end)) in
    let no_more : length all - c.loop-at.count ≡ 0 = sym (length-drop c.loop-at.count all) ∙ ap length none in (
      omega (arith, no_more, c.loop-at.invariant.counted),
      subst (λ events. PerformsAll events c.args.machine.now c.loop-at.machine)
          (take_all c.loop-at.count all (omega (arith, no_more))) c.loop-at.invariant.made,
      ap (λ x. drop x whole) c.loop-at.invariant.begins ∙ sym (take_all at m (omega (arith, end, same_size)))
          ∙ c.loop-at.invariant.so_far ∙ take_all at w end,
    )
