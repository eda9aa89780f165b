use Rattle.std.proofs.Common.{◌∙◌, sym}
use Rattle.em_regs.specs.Storage.{offsets}
use Rattle.em_regs.proofs.PlaceLaws.{distinct-offsets, length-offsets}
use Rattle.em_regs.proofs.Words.{words_are}
use Rattle.em_regs.proofs.reg_file.RegFile.words.Goals as goal

pub returns-clause-words : goal.returns-clause-words
returns-clause-words c =
    words_are offsets c.self.inside.words c.args.self.now distinct-offsets (c.self.told ∙ sym length-offsets) c.self.view_is
