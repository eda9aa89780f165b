use Rattle.std.proofs.Common.{◌≡◌, ◌++◌, [], ap, ◌∙◌, sym, rules}
use Rattle.std.proofs.lemmas.Result.{MatchResult-from_err}
use Rattle.std.proofs.lemmas.List.{nil_from_length}
use Rattle.hex.specs.Hex.{encode_with}
use Rattle.em_text.specs.Writer.{hex_text}
use Rattle.em_text.proofs.WritingLemmas.{WroteFront-more, WroteFront-part, WroteFront-all, hex_text-cut}
use Rattle.em_text.proofs.writer.write_octets.Goals as goal

pub returns-in_err-write_whole : goal.returns-in_err-write_whole
returns-in_err-write_whole g c =
    let chunk = c.split_at.result.0.now in
    let behind = c.split_at.result.1.now in
    let cut = hex_text-cut c.loop-rest.rest.now chunk behind _ c.split_at.ensures.front c.split_at.ensures.back
    ∙ ap (λ l. l ++ hex_text behind) (sym c.fill_digits.ensures) in
    record {
      writes = MatchResult-from_err _ _ _ c.from_residual.ensures.0 (λ _.
          WroteFront-part (hex_text behind) c.loop-rest.invariant cut c.in_err-write_whole.ensures.writes);
    }

pub loop-rest-preserved : goal.loop-rest-preserved
loop-rest-preserved g c =
    let chunk = c.split_at.result.0.now in
    let behind = c.split_at.result.1.now in
    let cut = hex_text-cut c.loop-rest.rest.now chunk behind _ c.split_at.ensures.front c.split_at.ensures.back
    ∙ ap (λ l. l ++ hex_text behind) (sym c.fill_digits.ensures) in
    WroteFront-more c.fill_digits.new.digits c.loop-rest.invariant cut c.in_ok-write_whole.ensures.writes

pub returns : goal.returns
unfolding encode_with
returns g c =
    let done : c.loop-rest.rest.now ≡ [] = nil_from_length _ (search rules) in
    record { writes = WroteFront-all c.loop-rest.invariant (ap hex_text done) }
