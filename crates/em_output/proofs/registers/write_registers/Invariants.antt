use Rattle.std.proofs.Common.{◌≡◌, ◌-◌, ◌/◌, ◌%◌}
use Rattle.em_text.proofs.WritingLemmas.{WroteFront}
use Rattle.em_output.specs.Registers.{words_text, registers_text}
use Rattle.em_output.proofs.registers.write_registers.Given as goal

-- the lines of the words from here on are still to come
abbrev pub invariant-loop-offset : goal.invariant-loop-offset
invariant-loop-offset g l =
    let contents = g.W.Write.contents in
    record {
      whole : l.from % 4 ≡ 0;
      wrote : WroteFront (contents l.fn.writer) (contents l.writer)
          (words_text l.machine.present (l.from / 4) (0x01800 - l.from / 4)) (registers_text l.machine.present);
    }

abbrev pub decreases-loop-offset : goal.decreases-loop-offset
decreases-loop-offset g l = 0x06000 - l.from
