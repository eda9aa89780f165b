use Rattle.std.proofs.Common.{◌≡◌, ◌∙◌, ◌++◌, ◌==◌, ℕ, Bool, false, List, [], ap, sym, length}
use Rattle.std.specs.Prelude.{if◌then◌else◌}
use Rattle.std.specs.Str.Lossy.{replacement_bytes}
use Rattle.em_text.proofs.WritingLemmas.{Writes-more}
use Rattle.em_json.specs.Strings.{escaped}
use Rattle.em_json.proofs.strings.write_chunk.Goals as goal

pub returns-else-is_empty : goal.returns-else-is_empty
returns-else-is_empty g c =
    let valid : List ℕ = c.args.chunk.valid.now in
    let test : (length c.args.chunk.invalid.now == 0) ≡ false
    = ap (λ (octets : List ℕ). length octets == 0) (sym c.invalid.ensures) ∙ sym c.is_empty.ensures ∙ c.if-is_empty.false in
    record {
      writes = Writes-more _ _ _ _ (escaped valid) replacement_bytes _
          (rw (c.as_bytes.ensures.value, c.valid.ensures) at c.in_ok-write_escaped.ensures.writes)
          c.write_whole.ensures.writes
          (ap (λ (b : Bool). escaped valid ++ (if b then [] else replacement_bytes)) test);
    }
