use Rattle.std.proofs.Common.{◌≡◌, ◌+◌, ◌∷◌, take, drop, sym, ap, ◌∙◌, arith}
use Rattle.std.specs.List.{slice_split, position_or_len}
use Rattle.std.proofs.lemmas.List.{take_rest}
use Rattle.std.proofs.lemmas.List.Splits.{slice_split_first}
use Rattle.em_prompt.specs.Bits.{is_bar}
use Rattle.em_prompt.proofs.BitsLaws.{no_bar}
use Rattle.em_prompt.proofs.bits.first_name.Goals as goal

pub returns-then-end-text-clause-last : goal.returns-then-end-text-clause-last
returns-then-end-text-clause-last c = no_bar c.args.text.now (omega arith)

pub returns-clause-last : goal.returns-clause-last
returns-clause-last c =
    let text = c.args.text.now in
    let n = c.name_len-end.result in
    let e : n ≡ position_or_len is_bar text = c.name_len-end.ensures.value in
    slice_split_first is_bar text 0 (omega arith)
    ∙ ap (λ k. take k text ∷ slice_split is_bar (drop (k + 1) text)) (sym e)
    ∙ ap (λ l. take n text ∷ slice_split is_bar l) (sym (take_rest text (n + 1)))
