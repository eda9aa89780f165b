use Rattle.std.proofs.Common.{◌++◌, codes, decimal, refl}
use Rattle.em_text.proofs.WritingLemmas.{Writes-more}
use Rattle.em_debugger.specs.Listing.{blanks_before}
use Rattle.em_debugger.proofs.listing.write_number_column.Goals as goal

pub returns : goal.returns
returns g c =
    let digits = decimal c.args.number in
    record {
      writes = Writes-more _ _ _ _ (blanks_before digits) (digits ++ codes "  ") _
          (rw c.format.ensures.text at (rw c.as_bytes-digits.ensures.value at (rw c.blanks_before.ensures at c.in_ok-write_whole.ensures.writes)))
          (rw c.format.ensures.text at (rw c.as_bytes-digits.ensures.value at c.write_pieces.ensures.writes)) refl;
    }
