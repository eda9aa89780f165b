use Rattle.em_prompt.specs.Watch.{plain}
use Rattle.em_debugger.specs.Who.{AnswersWatch, AnswersWho}
use Rattle.em_debugger.proofs.TextLaws.{OnOk-told}
use Rattle.em_debugger.proofs.debugger.Debugger.who.Goals as goal

pub returns : goal.returns
returns g c =
    let old = c.args.self.now in
    let new = c.who_watched.new.self in
    record {
      ok = OnOk-told _ _ c.who_watched.result (AnswersWatch c.args.which old new c.watch_of.result)
          (AnswersWho old new (plain c.args.typed) c.args.which)
          (λ t h. record { watch = c.watch_of.result; watched = c.watch_of.ensures; answers = h })
          c.who_watched.ensures.ok;
    }
