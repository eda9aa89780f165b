use Rattle.std.proofs.Common.{◌≡◌, ◌∙◌, subst}
use Rattle.std.specs.Prelude.{OnOk, Some}
use Rattle.em_debugger.specs.Disk.{Did, making}
use Rattle.em_debugger.specs.Files.{script_here}
use Rattle.em_debugger.proofs.FilesLaws.{unmade}
use Rattle.em_debugger.proofs.debugger.Debugger.save_lines.Goals as goal

pub returns-in-Ok : goal.returns-in-Ok
returns-in-Ok g c =
    let d = c.args.self.now in
    let name = c.args.name.now in
    let did = Did g.D.Disk.passes c.args.disk.now c.write_file.new.disk in
    let text : c.as_slice.result.now ≡ script_here d =
    c.as_slice.ensures.value ∙ (rw c.new-text.ensures.items at c.in-Ok.ensures.ok) in
    record {
      ok = subst (λ t. OnOk c.write_file.result (did (Some (making c.args.over name t)))) text c.write_file.ensures.ok;
      err = unmade did name c.write_file.result c.write_file.ensures.err;
    }
