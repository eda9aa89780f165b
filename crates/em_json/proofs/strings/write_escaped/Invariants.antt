use Rattle.std.proofs.Common.{take}
use Rattle.std.specs.List.{flat_map}
use Rattle.std.specs.Io.KnownBytes.{Appends}
use Rattle.em_json.specs.Strings.{octet_text}
use Rattle.em_json.proofs.strings.write_escaped.Given as goal

-- those so far
abbrev pub invariant-loop-octet : goal.invariant-loop-octet
invariant-loop-octet g l =
    let contents = g.W.Write.contents in
    Appends (contents l.fn.writer) (contents l.writer) (flat_map octet_text (take l.octet-index l.text))
