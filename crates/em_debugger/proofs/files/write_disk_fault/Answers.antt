use Rattle.std.proofs.Common.{◌++◌, refl}
use Rattle.std.proofs.lemmas.Result.{MatchResult-from_err}
use Rattle.em_text.proofs.WritingLemmas.{WroteFront-more, WroteFront-none, WroteFront-part, Writes-more}
use Rattle.em_debugger.specs.Disk.{disk_text}
use Rattle.em_debugger.proofs.files.write_disk_fault.Goals as goal

pub returns-in_err-write_whole : goal.returns-in_err-write_whole
returns-in_err-write_whole g c =
    let wrote-0 = WroteFront-none (g.W.Write.contents c.args.writer.now) (c.args.name.now ++ disk_text c.args.fault) in
    record {
      writes = MatchResult-from_err _ _ _ c.from_residual.ensures.0 (λ _.
          WroteFront-part (disk_text c.args.fault) wrote-0 refl c.in_err-write_whole.ensures.writes);
    }

pub returns : goal.returns
returns g c =
    let wrote-0 = WroteFront-none (g.W.Write.contents c.args.writer.now) (c.args.name.now ++ disk_text c.args.fault) in
    let wrote-1 = WroteFront-more c.args.name.now wrote-0 refl c.in_ok-write_whole.ensures.writes in
    record {
      writes = Writes-more _ _ _ _ wrote-1.front (disk_text c.args.fault) _ wrote-1.written (rw c.text.ensures at c.write_whole-2.ensures.writes) wrote-1.whole;
    }
