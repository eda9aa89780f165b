use Rattle.em_debugger.specs.Files.{BeginsAdded, BeginsText}
use Rattle.em_debugger.proofs.BeginningLaws.{begins_text}
use Rattle.em_debugger.proofs.TextLaws.{OnOk-told}
use Rattle.em_debugger.proofs.debugger.Debugger.begin_text.Goals as goal

pub returns : goal.returns
returns g c =
    let old = c.args.self.now in
    let between = c.add_lines-added.new.self in
    let new = c.begin_added.new.self in
    let added = c.add_lines-added.result in
    let script = c.args.script.now in
    record {
      ok = OnOk-told _ _ c.begin_added.result (BeginsAdded c.args.step added between new)
          (BeginsText c.args.step old new script)
          (λ t h. begins_text c.args.step added old between new script t c.add_lines-added.ensures.ok
          c.add_lines-added.ensures.err c.add_lines-added.ensures.are c.add_lines-added.ensures.only h) c.begin_added.ensures.ok;
    }
