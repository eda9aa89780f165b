use Rattle.std.proofs.Common.{◌≡◌, ◌<◌, min, length, refl, sym, ◌∙◌, arith}
use Rattle.em_c.proofs.TrailBack.{more_back, some_left, all_back}
use Rattle.em_c.proofs.tagged.Tagged.go_back.Goals as goal

-- an event is left to take back as long as fewer were taken than there are
pub returns-in-Err-clause-count : goal.returns-in-Err-clause-count
returns-in-Err-clause-count c =
    let fewer : c.loop-done.done < length c.args.self.now.traced.notes
    = omega (arith, c.loop-done-test.true, c.min-count.ensures, c.len.ensures.notes) in
    absurd (some_left c.loop-done.done c.args.self.now c.loop-done.self c.loop-done.invariant.back fewer
    c.in-Err.ensures.empty)

pub returns-in-Err-clause-back : goal.returns-in-Err-clause-back
returns-in-Err-clause-back c =
    let fewer : c.loop-done.done < length c.args.self.now.traced.notes
    = omega (arith, c.loop-done-test.true, c.min-count.ensures, c.len.ensures.notes) in
    absurd (some_left c.loop-done.done c.args.self.now c.loop-done.self c.loop-done.invariant.back fewer
    c.in-Err.ensures.empty)

pub loop-done-preserved : goal.loop-done-preserved
loop-done-preserved c = record {
  back = more_back c.loop-done.done c.args.self.now c.loop-done.self
      (record { traced = c.back.new.self; tag = c.loop-done.self.tag; handed = c.loop-done.self.handed })
      c.in-Ok.field-0 c.loop-done.invariant.back c.in-Ok.ensures.ok refl refl;
}

-- as many are taken as the loop has rounds
pub returns-clause-back : goal.returns-clause-back
returns-clause-back c =
    let rounds : c.loop-done.done ≡ min c.args.n (length c.args.self.now.traced.view.past)
    = omega (arith, c.loop-done.auto.done-end, c.loop-done-test.false, c.min-count.ensures, c.len.ensures.past) in
    all_back c.args.n c.loop-done.done c.args.self.now c.loop-done.self c.loop-done.invariant.back rounds
    (sym c.len.ensures.notes ∙ c.len.ensures.past)
