use Rattle.std.proofs.Common.{◌++◌, length, refl}
use Rattle.em_debugger.specs.Disk.{Did, disk_text, stored, unstored}
use Rattle.em_debugger.specs.Offers.{SavesFrames, wrote_text}
use Rattle.em_debugger.proofs.TextLaws.{OnOk-written}
use Rattle.em_debugger.proofs.debugger.Debugger.write_capture.Goals as goal

pub returns-in-Ok : goal.returns-in-Ok
returns-in-Ok g c =
    let d = c.args.self.now in
    let did = Did g.D.Disk.passes c.args.disk.now c.save_capture.new.disk in
    record {
      ok = OnOk-written _ _ _ (wrote_text (length d.tape.session.machine.present.wire))
          (SavesFrames did c.args.over d c.args.name.now)
          (rw (c.wire_len.ensures, c.machine.ensures.value) at c.write_wrote.ensures.writes) (stored c.in-Ok.ensures.ok refl);
    }

pub returns-in-Err : goal.returns-in-Err
returns-in-Err g c =
    let did = Did g.D.Disk.passes c.args.disk.now c.save_capture.new.disk in
    record {
      ok = OnOk-written _ _ _ (c.args.name.now ++ disk_text c.in-Err.fault)
          (SavesFrames did c.args.over c.args.self.now c.args.name.now) c.write_disk_fault.ensures.writes
          (unstored c.in-Err.fault c.in-Err.ensures.err refl);
    }
