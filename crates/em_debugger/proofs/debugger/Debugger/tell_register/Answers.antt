use Rattle.std.proofs.Common.{refl}
use Rattle.em_watch.specs.declared.watch.Watch.TheVariants.{Register}
use Rattle.em_debugger.specs.Compare.{TellsRegister, known_of}
use Rattle.em_debugger.specs.Who.{TellsNewest}
use Rattle.em_debugger.proofs.TextLaws.{OnOk-behind}
use Rattle.em_debugger.proofs.debugger.Debugger.tell_register.Goals as goal

pub returns : goal.returns
returns g c =
    let old = c.args.self.now in
    let new = c.who_before.new.self in
    record {
      ok = OnOk-behind _ _ _ c.who_before.result (known_of c.args.is_known c.args.reg)
          (TellsNewest old new (Register c.args.reg) c.args.before) (TellsRegister old new c.args.reg c.args.before c.args.is_known)
          c.in_ok-write_known.ensures.writes (λ t h. record { who = t; newest = h; told = refl })
          c.who_before.ensures.ok;
    }
