use Rattle.std.proofs.Common.{◌≡◌, ◌∙◌, ◌+◌, ◌*◌, refl, sym, ap, arith}
use Rattle.std.proofs.lemmas.Result.{err_from_is_err_and}
use Rattle.em_driver.specs.Start.{memory, fresh_descriptor, descriptors}
use Rattle.em_driver.proofs.course.StartCourse.{each_none, each_more, each_all, each_stops, memory_as, memory_stops_as}
use Rattle.em_driver.proofs.start_access.Starting.descriptors.Goals as goal

pub loop-i-init : goal.loop-i-init
unfolding descriptors
loop-i-init g c = record { counted = omega arith; layout = refl; comes = λ more. each_none _ _ _ more }

pub loop-i-preserved : goal.loop-i-preserved
loop-i-preserved g c =
    let i = c.loop-i.i in
    let addr : c.args.ring + 16 * i ≡ c.args.ring + 16 * c.from.result = omega (arith, c.from.ensures) in
    let octets : fresh_descriptor (c.args.buffers + 2048 * i) ≡ c.fresh_descriptor-octets.result =
    sym (c.fresh_descriptor-octets.ensures
    ∙ ap (λ x. fresh_descriptor (c.args.buffers + 2048 * x)) c.from-in-loop-i.ensures) in
    record {
      counted = omega (arith, c.loop-i.invariant.counted, c.in_ok-poke.ensures.counted);
      layout = c.poke.ensures.layout ∙ c.loop-i.invariant.layout;
      comes = λ more.
          each_more _ _ _ _ (λ j. memory (c.args.ring + 16 * j) (fresh_descriptor (c.args.buffers + 2048 * j)))
          c.args.count i _ more c.loop-i-test.true (c.loop-i.invariant.comes more)
          (memory_as _ _ c.in_ok-poke.ensures.ok addr octets);
    }

pub returns-in_err-poke-clause-err : goal.returns-in_err-poke-clause-err
returns-in_err-poke-clause-err g c =
    let i = c.loop-i.i in
    let addr : c.args.ring + 16 * i ≡ c.args.ring + 16 * c.from.result = omega (arith, c.from.ensures) in
    let octets : fresh_descriptor (c.args.buffers + 2048 * i) ≡ c.fresh_descriptor-octets.result =
    sym (c.fresh_descriptor-octets.ensures
    ∙ ap (λ x. fresh_descriptor (c.args.buffers + 2048 * x)) c.from-in-loop-i.ensures) in
    let p = err_from_is_err_and c.from_residual.result c.from_residual.ensures.1 in
    rw (p.1, p.2)
    (each_stops (descriptors c.args.ring c.args.count c.args.buffers)
    (λ j. memory (c.args.ring + 16 * j) (fresh_descriptor (c.args.buffers + 2048 * j))) c.args.count i i
    c.loop-i-test.true c.loop-i.invariant.comes c.loop-i.invariant.counted
    (memory_stops_as c.in_err-poke.ensures.err addr octets))

pub returns-clause-ok : goal.returns-clause-ok
returns-clause-ok g c = λ more.
    each_all _ _ _ (λ i. memory (c.args.ring + 16 * i) (fresh_descriptor (c.args.buffers + 2048 * i))) c.args.count
    c.loop-i.i more (omega arith) (c.loop-i.invariant.comes more) (omega arith)
