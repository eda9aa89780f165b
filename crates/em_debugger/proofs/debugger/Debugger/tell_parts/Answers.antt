use Rattle.std.proofs.Common.{[], Some, append-nil, refl, sym}
use Rattle.em_debugger.specs.Compare.{TellsParts, TellsRegister, before_line}
use Rattle.em_debugger.proofs.TextLaws.{OnOk-behind}
use Rattle.em_debugger.proofs.debugger.Debugger.tell_parts.Goals as goal

pub returns-in-Some : goal.returns-in-Some
returns-in-Some g c =
    let old = c.args.self.now in
    let new = c.tell_register.new.self in
    let p = c.args.performed in
    let shown = c.in_ok-write_performed.ensures.ok in
    record {
      ok = rw c.in-Some.is (OnOk-behind _ _ _ c.tell_register.result shown.0
          (TellsRegister old new c.in-Some.reg (before_line p old) c.args.is_known)
          (TellsParts old new p (Some c.in-Some.reg) c.args.is_known) shown.1
          (λ t h. record { line = shown.0; shows = shown.2; rest = t; tells = h; told = refl })
          (rw c.before_line-before.ensures at c.tell_register.ensures.ok));
    }

pub returns-in-None : goal.returns-in-None
returns-in-None g c =
    let shown = c.in_ok-write_performed.ensures.ok in
    record {
      ok = (
        shown.0,
        shown.1,
        record {
          line = shown.0;
          shows = shown.2;
          rest = [];
          tells = rw c.in-None.is (refl, refl);
          told = sym (append-nil shown.0);
        },
      );
    }
