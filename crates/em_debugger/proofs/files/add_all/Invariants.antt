use Rattle.std.proofs.Common.{◌≡◌, length}
use Rattle.std.specs.Prelude.{◌&&◌}
use Rattle.em_tape.specs.Texts.{texts}
use Rattle.em_text.specs.Lines.{lines_of}
use Rattle.em_debugger.specs.Files.{are_read}
use Rattle.em_debugger.proofs.FilesLaws.{AddedSo}
use Rattle.em_debugger.proofs.files.add_all.Given as goal

-- the lines of the text were added as far as the rest, with the answers that they expect and their marks; and it is known
-- whether those are read
abbrev pub invariant-loop-rest : goal.invariant-loop-rest
invariant-loop-rest l =
    AddedSo l.fn.profile l.fn.tape l.tape (texts l.fn.wanted.answers.items) (texts l.wanted.answers.items)
    (texts l.fn.marks.answers.items) (texts l.marks.answers.items) l.fn.text l.rest
    × ((l.are_read && are_read l.fn.profile (lines_of l.rest)) ≡ are_read l.fn.profile (lines_of l.fn.text))

abbrev pub decreases-loop-rest : goal.decreases-loop-rest
decreases-loop-rest l = length l.rest
