use Rattle.std.proofs.Common.{◌∙◌, ◌++◌, ◌-◌, ap, take}
use Rattle.em_tx.proofs.FrameLaws.{take_of_both}
use Rattle.em_tx.proofs.frame.gather_beside_tag.Goals as goal

pub returns-clause-items : goal.returns-clause-items
returns-clause-items c =
    let before = c.beside_tag.result.0.now in
    let behind = c.beside_tag.result.1.now in
    let n = c.args.count in
    c.gather-2.ensures.items
    ∙ ap (λ o. o ++ take (n - c.min-first.result) behind)
    (c.gather.ensures.items ∙ ap (λ o. o ++ take c.min-first.result before) c.requires.empty)
    ∙ take_of_both n c.min-first.result before behind c.min-first.ensures ∙ ap (take n) c.beside_tag.ensures.octets
