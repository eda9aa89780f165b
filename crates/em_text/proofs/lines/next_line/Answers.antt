use Rattle.std.proofs.Common.{◌≡◌, ◌+◌, ◌∷◌, take, drop, sym, ap, ◌∙◌, arith}
use Rattle.std.specs.List.{position_or_len}
use Rattle.std.proofs.lemmas.List.{take_rest, drop_all}
use Rattle.em_text.specs.Lines.{lines_of, is_newline}
use Rattle.em_text.proofs.LinesLemmas.{lines_of_first, lines_of_last}
use Rattle.em_text.proofs.lines.next_line.Goals as goal

pub returns-then-end-script-clause-lines : goal.returns-then-end-script-clause-lines
returns-then-end-script-clause-lines c =
    let script = c.args.script.now in
    let n = c.line_len-end.result in
    lines_of_last script c.requires (omega arith)
    ∙ ap (λ l. script ∷ lines_of l) (sym (take_rest script n ∙ drop_all n script (omega arith)))

pub returns-clause-lines : goal.returns-clause-lines
returns-clause-lines c =
    let script = c.args.script.now in
    let n = c.line_len-end.result in
    let e : n ≡ position_or_len is_newline script = c.line_len-end.ensures.value in
    lines_of_first script (omega arith)
    ∙ ap (λ k. take k script ∷ lines_of (drop (k + 1) script)) (sym e)
    ∙ ap (λ l. take n script ∷ lines_of l) (sym (take_rest script (n + 1)))
