use Rattle.std.proofs.Common.{length}
use Rattle.em_json.proofs.JoinedLaws.{WroteJoined}
use Rattle.em_json.proofs.strings.write_joined_behind.Given as goal

-- the lines so far
abbrev pub invariant-loop-rest : goal.invariant-loop-rest
invariant-loop-rest g l =
    let contents = g.W.Write.contents in
    WroteJoined (contents l.fn.writer) (contents l.writer) l.text l.rest

abbrev pub decreases-loop-rest : goal.decreases-loop-rest
decreases-loop-rest g l = length l.rest
