use Rattle.std.proofs.Common.{List, ℕ, refl, subst, sym}
use Rattle.std.specs.Prelude.{OnOk}
use Rattle.std.specs.Io.KnownBytes.{Appends}
use Rattle.em_debugger.specs.Files.{BeginsAdded}
use Rattle.em_debugger.specs.Performing.{fault_text}
use Rattle.em_debugger.proofs.TextLaws.{OnOk-written}
use Rattle.em_debugger.proofs.debugger.Debugger.begin_added.Goals as goal

pub returns-in-Ok : goal.returns-in-Ok
returns-in-Ok g c =
    let contents = g.W.Write.contents in
    record {
      ok = subst (λ added. OnOk c.begin_lines.result ((t : List ℕ)
          × Appends (contents c.args.writer.now) (contents c.begin_lines.new.writer) t
          × BeginsAdded c.args.step added c.args.self.now c.begin_lines.new.self t)) (sym c.in-Ok.is)
          c.begin_lines.ensures.ok;
    }

pub returns-in-Err : goal.returns-in-Err
returns-in-Err g c =
    let d = c.args.self.now in
    record {
      ok = OnOk-written _ _ _ (fault_text c.in-Err.fault) (BeginsAdded c.args.step c.args.added d d)
          c.write_fault.ensures.writes (rw c.in-Err.is (refl, refl));
    }
