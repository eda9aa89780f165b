use Rattle.std.proofs.Common.{◌≡◌, ◌+◌, ◌-◌, ◌++◌, ℕ, List, length, take, drop, ap, ◌∙◌, sym, rules, take-add}
use Rattle.std.proofs.lemmas.List.{drop-drop}
use Rattle.std.proofs.lemmas.Slice.{take-put_mid}
use Rattle.em_mem.specs.Memory.{part}
use Rattle.em_c.proofs.sync.copy_pages.Goals as goal

pub loop-at-preserved : goal.loop-at-preserved
loop-at-preserved c =
    let m : List ℕ = c.args.machine.now.present.memory in
    let from : ℕ = c.args.from in
    let at : ℕ = c.loop-at.at in
    let n : ℕ = c.min.result in
    let long : length (take (at + n - at) (drop at c.loop-at.ram)) ≡ n = search rules in
    let page = c.copy_page.ensures ∙ ap (part m (from + at)) long ∙ ap (take n) (sym (drop-drop at from m)) in
    let size : at + n ≡ at + length c.copy_page.new.ram = search (rules, page) in
    record {
      within = search rules;
      same = take-put_mid at (at + n - at) c.loop-at.ram c.copy_page.new.ram (at + n) size (search rules)
          ∙ (λ i. c.loop-at.invariant.same i ++ page i) ∙ sym (take-add at n (drop from m));
    }
