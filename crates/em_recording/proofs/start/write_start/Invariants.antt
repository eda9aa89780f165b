use Rattle.std.proofs.Common.{◌-◌, ◌++◌, ◌≤◌}
use Rattle.std.specs.Prelude.{codes}
use Rattle.em_text.proofs.WritingLemmas.{WroteFront}
use Rattle.em_recording.specs.StartText.{start_text, words_text}
use Rattle.em_recording.proofs.start.write_start.Given as goal

-- the words from here on are still to come
abbrev pub invariant-loop-word : goal.invariant-loop-word
invariant-loop-word g l =
    let contents = g.W.Write.contents in
    record {
      within : l.word ≤ 0x1800;
      wrote : WroteFront (contents l.fn.writer) (contents l.writer)
          (words_text l.machine.present l.word (0x1800 - l.word) ++ codes "}}}\n") (start_text l.machine.present);
    }
