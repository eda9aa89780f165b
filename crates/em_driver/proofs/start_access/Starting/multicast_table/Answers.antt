use Rattle.std.proofs.Common.{◌∙◌, refl, arith}
use Rattle.em_regs.specs.declared.reg.Reg.TheVariants.{Mta}
use Rattle.em_driver.specs.Course.{write}
use Rattle.em_driver.specs.Start.{multicast_table}
use Rattle.em_driver.proofs.course.CourseSteps.{comes_none}
use Rattle.em_driver.proofs.course.StartCourse.{each_more, each_all}
use Rattle.em_driver.proofs.start_access.Starting.multicast_table.Goals as goal

pub loop-word-init : goal.loop-word-init
unfolding multicast_table
loop-word-init g c = record { counted = omega arith; layout = refl; comes = λ more. comes_none _ _ }

pub loop-word-preserved : goal.loop-word-preserved
loop-word-preserved g c = record {
  counted = omega (arith, c.loop-word.invariant.counted, c.write.ensures.counted);
  layout = c.write.ensures.layout ∙ c.loop-word.invariant.layout;
  comes = λ more.
      each_more _ _ _ _ (λ i. write (Mta i) 0) 128 _ _ more c.loop-word-test.true (c.loop-word.invariant.comes more)
      c.write.ensures.performs;
}

pub returns-clause-performs : goal.returns-clause-performs
returns-clause-performs g c = λ more.
    each_all _ _ _ (λ i. write (Mta i) 0) 128 c.loop-word.word more (omega arith)
    (c.loop-word.invariant.comes more) (omega arith)
