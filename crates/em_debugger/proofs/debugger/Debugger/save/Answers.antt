use Rattle.std.proofs.Common.{◌++◌, ap, refl}
use Rattle.em_debugger.specs.Disk.{Did, disk_text, stored, unstored}
use Rattle.em_debugger.specs.Files.{Saves, saved_text}
use Rattle.em_debugger.proofs.FilesLaws.{here_long}
use Rattle.em_debugger.proofs.TextLaws.{OnOk-written}
use Rattle.em_debugger.proofs.debugger.Debugger.save.Goals as goal

pub returns-in-Ok : goal.returns-in-Ok
returns-in-Ok g c =
    let d = c.args.self.now in
    let did = Did g.D.Disk.passes c.args.disk.now c.save_lines.new.disk in
    record {
      ok = OnOk-written _ _ _ (saved_text c.line_here.result) (Saves did c.args.over d c.args.name.now)
          c.write_saved.ensures.writes
          (stored c.in-Ok.ensures.ok
          (ap saved_text (here_long d.tape c.line_here.result c.line_here.ensures.line c.line_here.ensures.there)));
    }

pub returns-in-Err : goal.returns-in-Err
returns-in-Err g c =
    let did = Did g.D.Disk.passes c.args.disk.now c.save_lines.new.disk in
    record {
      ok = OnOk-written _ _ _ (c.args.name.now ++ disk_text c.in-Err.fault)
          (Saves did c.args.over c.args.self.now c.args.name.now) c.write_disk_fault.ensures.writes
          (unstored c.in-Err.fault c.in-Err.ensures.err refl);
    }
