use Rattle.std.proofs.Common.{◌++◌, take, sym, ap, ◌∙◌, take-append-drop}
use Rattle.std.proofs.lemmas.List.{take_rest}
use Rattle.em_text.proofs.WritingLemmas.{Writes-more}
use Rattle.em_text.proofs.writer.write_whole.Goals as goal

-- the front that was taken at once, and the rest by parts
pub returns-in-Ok-2 : goal.returns-in-Ok-2
returns-in-Ok-2 g c =
    let text = c.args.text.now in
    let count = c.in-Ok.count in
    record {
      writes = Writes-more _ _ _ c.write_in_parts.result (take count text) _ text c.in-Ok.ensures.bytes
          c.write_in_parts.ensures.writes
          (sym (take-append-drop count text) ∙ ap (λ l. take count text ++ l) (sym (take_rest text count)));
    }
