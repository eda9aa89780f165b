use Rattle.std.proofs.Common.{◌≡◌, ◌<◌, sym, true, arith, length, get_or, ◌∙◌, refl}
use Rattle.em_text.specs.Words.{is_blank}
use Rattle.em_text.proofs.FrontLemmas.{number_near}
use Rattle.em_text.proofs.numbers.number_in_chunk.Goals as goal
use Rattle.em_text.proofs.numbers.number_in_chunk.Goals.{else-len-via-then-len+then-len-text+else-not-is_blank}
use Rattle.em_text.proofs.numbers.number_in_chunk.Goals.{else-len-via-then-len+else-len-text, else-len-via-else-len}

pub returns : goal.returns
returns g c =
    let text = c.args.text.now in
    let len = c.in-Some-scan_number.len in
    let behind : (len ≡ g.row.N → len < length text → is_blank (get_or text len 0) ≡ true) =
    elim c.else-len.branch [
      | else-len-via-then-len+then-len-text+else-not-is_blank w ↦ λ all lt.
          sym w.is_blank.ensures ∙ w.if-not-is_blank.false
      | else-len-via-then-len+else-len-text w ↦ λ all lt. absurd (omega arith)
      | else-len-via-else-len w ↦ λ all lt. absurd (w.if-len.false all)
    ] in
    number_near c.args.base c.args.most g.row.N text c.in-Some.near.now _ len c.requires.letters
    (c.in-Some.ensures.variant.0 refl)
    c.in-Some.ensures.cases.same (c.in-Some-scan_number.ensures.some) behind
