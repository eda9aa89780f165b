use Rattle.std.proofs.Common.{ap, refl, subst}
use Rattle.em_debugger.specs.Bookmarks.{MarksPlace, Names, marked, marked_text}
use Rattle.em_debugger.proofs.TextLaws.{OnOk-written}
use Rattle.em_debugger.proofs.debugger.Debugger.mark.Goals as goal

pub returns-in-Ok : goal.returns-in-Ok
returns-in-Ok g c =
    let old = c.args.self.now in
    record {
      ok = OnOk-written _ _ _ (marked_text c.args.name.now c.event-event.result) (MarksPlace c.args.name.now old _)
          c.write_marked.ensures.writes
          (marked refl
          (subst (λ e. Names c.args.name.now e old.bookmarks.all.items c.put.new.self.all.items) c.event-event.ensures
          c.in-Ok.ensures.ok) (ap (marked_text c.args.name.now) c.event-event.ensures));
    }
