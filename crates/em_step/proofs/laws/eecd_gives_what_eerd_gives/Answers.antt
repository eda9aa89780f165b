use Rattle.std.proofs.Common.{◌∙◌, ap, sym}
use Rattle.em_regs.specs.RegFile.{eerd_value}
use Rattle.em_regs.proofs.Entries.{at-insert_same}
use Rattle.em_step.proofs.laws.eecd_gives_what_eerd_gives.Goals as goal

pub returns : goal.returns
returns c = λ s k a small less whole selected.
    at-insert_same _ _ _
    ∙ ap (eerd_value a) (sym (c.words_come_out.ensures.word s.eeprom s.pins k a small less whole selected))
