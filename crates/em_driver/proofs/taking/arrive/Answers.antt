use Rattle.std.proofs.Common.{◌∙◌, ◌++◌, arith, refl, sym, ap, append-nil}
use Rattle.em_driver.proofs.course.TakenTurns.{takes_arrival, stored_one, stored_none}
use Rattle.em_driver.proofs.taking.arrive.Goals as goal

pub returns-in-Stored-clause-takes : goal.returns-in-Stored-clause-takes
returns-in-Stored-clause-takes g c =
    let before = c.args.stored.now.items in
    takes_arrival (g.M.Acts.shows c.args.machine.now) (g.M.Acts.shows c.perform.new.self) before
    c.push_reserved.new.self.items c.args.frame c.octets.result.now c.in-Ok.answer c.octets.ensures
    c.in-Ok.ensures.ok.does
    (c.push_reserved.ensures.items ∙ ap (λ fs. before ++ fs) (stored_one c.args.frame c.in-Ok.answer c.in-Stored.is))

pub returns-in_default : goal.returns-in_default
returns-in_default g c =
    let before = c.args.stored.now.items in
    record {
      takes = takes_arrival (g.M.Acts.shows c.args.machine.now) (g.M.Acts.shows c.perform.new.self) before before
          c.args.frame c.octets.result.now c.in-Ok.answer c.octets.ensures c.in-Ok.ensures.ok.does
          (sym (append-nil before)
          ∙ ap (λ fs. before ++ fs) (stored_none c.args.frame c.in-Ok.answer c.in_default.not-Stored));
      room = omega arith;
      capacity = refl;
    }
