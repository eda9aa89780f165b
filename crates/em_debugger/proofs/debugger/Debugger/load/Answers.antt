use Rattle.std.proofs.Common.{◌++◌, refl, subst, sym}
use Rattle.std.specs.Prelude.{Some}
use Rattle.em_debugger.specs.Disk.{Did, Read, disk_text}
use Rattle.em_debugger.specs.Offers.{Loads, LoadsAs, is_capture, reads, unread}
use Rattle.em_debugger.proofs.TextLaws.{OnOk-told, OnOk-written}
use Rattle.em_debugger.proofs.debugger.Debugger.load.Goals as goal

pub returns-in-Ok : goal.returns-in-Ok
returns-in-Ok g c =
    let old = c.args.self.now in
    let new = c.load_read.new.self in
    let name = c.args.name.now in
    let file = c.as_slice.result.now in
    let did = Did g.D.Disk.passes c.args.disk.now c.read.new.self in
    let read = subst (λ t. did (Some (Read name t))) (sym c.as_slice.ensures.value) c.in-Ok.ensures.ok in
    record {
      ok = OnOk-told _ _ c.load_read.result (LoadsAs (is_capture name) old new file) (Loads did old new name)
          (λ t h. reads file read h) c.load_read.ensures.ok;
    }

pub returns : goal.returns
returns g c =
    let did = Did g.D.Disk.passes c.args.disk.now c.read.new.self in
    record {
      ok = OnOk-written _ _ _ (c.args.name.now ++ disk_text c.in-Err.fault)
          (Loads did c.args.self.now c.args.self.now c.args.name.now) c.write_disk_fault.ensures.writes
          (unread c.in-Err.fault c.in-Err.ensures.err refl refl);
    }
