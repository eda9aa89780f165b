use Rattle.std.proofs.Common.{◌∙◌, ◌++◌, ℕ, List, ap, sym, subst, append_assoc, refl}
use Rattle.std.proofs.lemmas.List.Concat.{flat_map-append}
use Rattle.std.proofs.lemmas.Result.{MatchResult-from_err}
use Rattle.std.specs.Io.KnownBytes.{Appends}
use Rattle.std.specs.Str.Chunks.{utf8_chunks_rest}
use Rattle.std.specs.Str.Lossy.{utf8_lossy}
use Rattle.em_text.proofs.WritingLemmas.{Appends-more, WritesPart-front, WritesPart-more}
use Rattle.em_json.specs.Strings.{chunk_text, escaped, octet_text}
use Rattle.em_json.proofs.StringLaws.{escaped_front, escaped_run, lossy_all, lossy_front, run_of}
use Rattle.em_json.proofs.strings.write_lossy.Goals as goal

pub loop-chunk-preserved : goal.loop-chunk-preserved
loop-chunk-preserved g c =
    let (done, written, same) = c.loop-chunk.invariant in
    let steps = c.in-Some.ensures.steps in
    let valid : List ℕ = c.in-Some.chunk.valid.now in
    let invalid : List ℕ = c.in-Some.chunk.invalid.now in
    let left : List ℕ = utf8_chunks_rest c.next.new.self in
    let front = lossy_front _ valid invalid left steps.0 steps.3.0 steps.3.1 steps.2 in (
      done ++ run_of valid invalid,
      Appends-more _ _ _ (escaped done) (chunk_text valid invalid) _ written c.in_ok-write_chunk.ensures.writes
          (flat_map-append octet_text done (run_of valid invalid)
          ∙ ap (λ (text : List ℕ). escaped done ++ text) (escaped_run valid invalid)),
      append_assoc done (run_of valid invalid) (utf8_lossy left)
          ∙ ap (λ (text : List ℕ). done ++ text) (sym front) ∙ same,
    )

pub returns-in_err-write_chunk : goal.returns-in_err-write_chunk
returns-in_err-write_chunk g c =
    let (done, written, same) = c.loop-chunk.invariant in
    let steps = c.in-Some.ensures.steps in
    let valid : List ℕ = c.in-Some.chunk.valid.now in
    let invalid : List ℕ = c.in-Some.chunk.invalid.now in
    let left : List ℕ = utf8_chunks_rest c.next.new.self in
    let front = escaped_front _ valid invalid left steps.0 steps.3.0 steps.3.1 steps.2 in
    record {
      writes = MatchResult-from_err _ _ _ c.from_residual.ensures.0 (λ _.
          WritesPart-more (escaped done) written
          (WritesPart-front (escaped (utf8_lossy left)) c.in_err-write_chunk.ensures.writes refl)
          (ap escaped (sym same) ∙ flat_map-append octet_text done _
          ∙ ap (λ (text : List ℕ). escaped done ++ text) front));
    }

pub returns : goal.returns
returns g c =
    let contents = g.W.Write.contents in
    let (done, written, same) = c.loop-chunk.invariant in
    let all = lossy_all done _ _ same c.in-None.ensures.steps.0 in
    record {
      writes = subst (λ (text : List ℕ). Appends (contents c.args.writer.now) (contents c.loop-chunk.writer)
          (escaped text)) all written;
    }
