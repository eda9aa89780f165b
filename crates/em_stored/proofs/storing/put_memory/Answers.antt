use Rattle.std.proofs.Common.{◌≡◌, ℕ, List, ◌*◌, ◌/◌, ◌++◌, sym, ap, ◌∙◌, take, drop}
use Rattle.std.proofs.lemmas.List.{drop-drop}
use Rattle.em_stored.specs.Form.{page_form, pages_form}
use Rattle.em_stored.proofs.FormLaws.{page_written}
use Rattle.em_stored.proofs.storing.put_memory.Goals as goal

pub loop-k-preserved : goal.loop-k-preserved
loop-k-preserved c =
    let base = c.range-base.result.0 in
    let n = c.range-base.result.1 / 4096 in
    let k = c.loop-k.k in
    let octets : List ℕ = drop base c.args.memory.now.octets in
    let before = c.loop-k.out.items in
    let page : c.in-Some.octets.now ≡ take 4096 (drop (4096 * k) octets)
    = c.in-Some.ensures.octets ∙ ap (take 4096) (sym (drop-drop (4096 * k) base c.args.memory.now.octets)) in
    page_written n k octets before c.put_page.new.out.items (c.args.out.now.items ++ pages_form n octets)
    c.loop-k-test.true c.loop-k.invariant
    (c.in_ok-put_page.ensures ∙ ap (λ (t : List ℕ). before ++ page_form t) page)
