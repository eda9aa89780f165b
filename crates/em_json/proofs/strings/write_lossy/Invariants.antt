use Rattle.std.proofs.Common.{◌≡◌, ◌++◌, ℕ, List}
use Rattle.std.specs.Io.KnownBytes.{Appends}
use Rattle.std.specs.Str.Chunks.{utf8_chunks_rest}
use Rattle.std.specs.Str.Lossy.{utf8_lossy}
use Rattle.em_json.specs.Strings.{escaped}
use Rattle.em_json.proofs.strings.write_lossy.Given as goal

-- the text so far, with that of the octets that are left, is the text of all
abbrev pub invariant-loop-chunk : goal.invariant-loop-chunk
invariant-loop-chunk g l =
    let contents = g.W.Write.contents in
    (done : List ℕ) × Appends (contents l.fn.writer) (contents l.writer) (escaped done)
    × (done ++ utf8_lossy (utf8_chunks_rest l.chunk-iterator) ≡ utf8_lossy l.fn.octets)
