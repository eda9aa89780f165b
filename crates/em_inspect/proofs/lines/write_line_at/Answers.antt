use Rattle.std.proofs.Common.{◌∙◌, ℕ, List, ◌+◌, ◌-◌, ◌*◌, ◌++◌, ap, ap₂, subst, sym}
use Rattle.em_mem.specs.Memory.{part}
use Rattle.em_text.specs.Writer.{Writes}
use Rattle.em_inspect.specs.Lines.{line_text}
use Rattle.em_inspect.proofs.TwoPartLemmas.{few_of_two, part_of_two}
use Rattle.em_inspect.proofs.lines.write_line_at.Goals as goal

pub write_octet_line-requires : goal.write_octet_line-requires
write_octet_line-requires g c =
    let back = c.args.back.now in
    few_of_two c.args.front.now back _ _ (16 * c.args.line) 16 c.part.ensures
    (c.part-2.ensures
    ∙ ap₂ (λ (from n : ℕ). part back from n) c.saturating_sub.ensures
    (c.saturating_sub-2.ensures ∙ ap (λ (n : ℕ). 16 - n) c.saturating_sub-in_front.ensures))

pub returns : goal.returns
returns g c =
    let contents = g.W.Write.contents in
    let front = c.args.front.now in
    let back = c.args.back.now in
    let from = 16 * c.args.line in
    let in_back = c.part-2.ensures
    ∙ ap₂ (λ (from n : ℕ). part back from n) c.saturating_sub.ensures
    (c.saturating_sub-2.ensures ∙ ap (λ (n : ℕ). 16 - n) c.saturating_sub-in_front.ensures) in
    let octets = ap₂ (λ (x y : List ℕ). x ++ y) c.part.ensures in_back ∙ sym (part_of_two front back from 16) in
    let shown = c.part.result.now ++ c.part-2.result.now in
    let same = ap (λ (address : ℕ). line_text (address + from) shown) c.from.ensures
    ∙ ap (λ (l : List ℕ). line_text (c.args.address + from) l) octets in
    record {
      writes = subst (λ (text : List ℕ).
          Writes (contents c.args.writer.now) (contents c.write_octet_line.new.writer) c.write_octet_line.result text)
          same c.write_octet_line.ensures.writes;
    }
