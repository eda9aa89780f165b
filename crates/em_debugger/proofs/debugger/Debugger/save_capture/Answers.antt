use Rattle.std.proofs.Common.{◌≡◌, ◌∙◌, subst}
use Rattle.std.specs.Prelude.{OnOk, Some}
use Rattle.em_debugger.specs.Disk.{Did, making}
use Rattle.em_debugger.specs.Offers.{capture_of}
use Rattle.em_debugger.proofs.FilesLaws.{unmade}
use Rattle.em_debugger.proofs.debugger.Debugger.save_capture.Goals as goal

pub returns-in-Ok-write_sent : goal.returns-in-Ok-write_sent
returns-in-Ok-write_sent g c =
    let d = c.args.self.now in
    let name = c.args.name.now in
    let did = Did g.D.Disk.passes c.args.disk.now c.write_file.new.disk in
    let text : c.as_slice-in-Ok-write_sent.result.now ≡ capture_of d =
    c.as_slice-in-Ok-write_sent.ensures.value
    ∙ (rw (c.new-capture.ensures.items, c.machine.ensures.value, c.as_slice.ensures.value, c.in-Ok.ensures.times)
    at c.in-Ok-write_sent.ensures.ok) in
    record {
      ok = subst (λ t. OnOk c.write_file.result (did (Some (making c.args.over name t)))) text c.write_file.ensures.ok;
      err = unmade did name c.write_file.result c.write_file.ensures.err;
    }
