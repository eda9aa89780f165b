use Rattle.std.proofs.Common.{◌≡◌, ◌∙◌, [], ◌++◌, List, ℕ, ap, subst, append-nil}
use Rattle.std.specs.Prelude.{codes}
use Rattle.em_text.specs.Writer.{Writes}
use Rattle.em_inspect.specs.TroubleText.{over_text}
use Rattle.em_inspect.proofs.descriptor_line.write_over.Goals as goal

pub returns : goal.returns
returns g c =
    let contents = g.W.Write.contents in
    let digits = c.as_bytes.result.now in
    let words = codes "  its buffer lies over that of " in
    let same : words ++ (digits ++ []) ≡ over_text c.args.other
    = ap (λ (text : List ℕ). words ++ text) (append-nil digits ∙ c.as_bytes.ensures.value ∙ c.format.ensures.text) in
    record {
      writes = subst (λ (text : List ℕ).
          Writes (contents c.args.writer.now) (contents c.write_pieces.new.writer) c.write_pieces.result text)
          same c.write_pieces.ensures.writes;
    }
