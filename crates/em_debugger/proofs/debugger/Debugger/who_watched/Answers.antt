use Rattle.std.proofs.Common.{sym, subst, List, ℕ}
use Rattle.std.specs.Prelude.{OnOk}
use Rattle.std.specs.Io.KnownBytes.{Appends}
use Rattle.em_debugger.specs.Who.{AnswersWatch}
use Rattle.em_debugger.proofs.debugger.Debugger.who_watched.Goals as goal

pub returns-in-Again : goal.returns-in-Again
returns-in-Again g c =
    let contents = g.W.Write.contents in
    record {
      ok = subst (λ w. OnOk c.who_older.result ((t : List ℕ)
          × Appends (contents c.args.writer.now) (contents c.who_older.new.writer) t
          × AnswersWatch w c.args.self.now c.who_older.new.self c.args.watch t)) (sym c.in-Again.is)
          c.who_older.ensures.ok;
    }
