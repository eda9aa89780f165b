use Rattle.std.proofs.Common.{◌≡◌, ◌∙◌, ◌-◌, ℕ, List, take, drop, ap, subst}
use Rattle.std.proofs.lemmas.List.{take_rest}
use Rattle.std.specs.Int.{w128, to_be_bytes}
use Rattle.em_text.specs.Writer.{Writes, hex_text}
use Rattle.em_inspect.specs.AddressText.{address_text}
use Rattle.em_inspect.proofs.piece.write_address.Goals as goal

pub returns : goal.returns
returns g c =
    let contents = g.W.Write.contents in
    let n = c.min.result in
    let octets = to_be_bytes w128 c.args.address in
    let same : hex_text (take (16 - n) (drop n c.to_be_bytes.result)) ≡ address_text c.args.address
    = ap (λ (l : List ℕ). hex_text (take (16 - n) (drop n l))) c.to_be_bytes.ensures
    ∙ ap (λ (l : List ℕ). hex_text l) (take_rest octets n)
    ∙ ap (λ (k : ℕ). hex_text (drop k octets)) c.min.ensures in
    record {
      writes = subst (λ (text : List ℕ).
          Writes (contents c.args.writer.now) (contents c.write_octets.new.writer) c.write_octets.result text)
          same c.write_octets.ensures.writes;
    }
