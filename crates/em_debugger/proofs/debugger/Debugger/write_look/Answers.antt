use Rattle.std.proofs.Common.{refl}
use Rattle.em_debugger.specs.Why.{TellsLook, TellsWatch, look_line}
use Rattle.em_debugger.proofs.TextLaws.{OnOk-behind}
use Rattle.em_debugger.proofs.debugger.Debugger.write_look.Goals as goal

pub returns : goal.returns
returns g c =
    let d = c.args.self.now in
    let tape = c.args.tape.now in
    record {
      ok = OnOk-behind _ _ _ c.write_watch_setter.result (look_line tape c.args.look) (TellsWatch d tape c.watch_of.result)
          (TellsLook d tape c.args.look) c.in_ok-write_look_line.ensures.writes
          (λ t h. record { watch = c.watch_of.result; watched = c.watch_of.ensures; setter = t; sets = h; told = refl })
          c.write_watch_setter.ensures.ok;
    }
