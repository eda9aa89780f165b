use Rattle.std.proofs.Common.{arith}
use Rattle.em_regs.specs.Table.{offset_of}
use Rattle.em_regs.specs.Storage.{offsets}
use Rattle.em_regs.proofs.Words.{IsPlace, word_is}
use Rattle.em_regs.proofs.PlaceLaws.{distinct-offsets, length-offsets}
use Rattle.em_regs.proofs.reg_file.RegFile.word.Goals as goal

pub returns : goal.returns
returns c =
    let place : IsPlace offsets c.self.inside.words c.args.self.now c.place_of.result (offset_of c.args.reg) = record {
      differ = distinct-offsets;
      offset = omega (arith, length-offsets);
      word = omega arith;
      place = c.place_of.ensures.place;
      words = c.self.view_is;
    } in
    word_is place
