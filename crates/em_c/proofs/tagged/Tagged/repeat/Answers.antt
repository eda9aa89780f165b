use Rattle.std.proofs.Common.{◌≡◌, true, false, inr, sym, ◌∙◌, arith}
use Rattle.em_step.specs.Event.{plain}
use Rattle.em_c.specs.Run.{is_idle}
use Rattle.em_c.proofs.RunLaws.{repeats_more}
use Rattle.em_c.proofs.tagged.Tagged.repeat.Goals as goal

pub returns-then-is_idle : goal.returns-then-is_idle
returns-then-is_idle c =
    let idle : is_idle c.in-Ok.answer ≡ true = sym c.is_idle.ensures ∙ c.if-is_idle.true in
    inr (record {
      last = c.loop-done.self;
      answer = c.in-Ok.answer;
      fewer = omega (arith, c.loop-done-test.true);
      repeats = c.loop-done.invariant.repeats;
      performs = c.in-Ok.ensures.ok;
      idle = idle;
    })

pub loop-done-preserved : goal.loop-done-preserved
loop-done-preserved c =
    let busy : is_idle c.in-Ok.answer ≡ false = sym c.is_idle.ensures ∙ c.if-is_idle.false in
    record {
      repeats = repeats_more c.loop-done.done (plain c.args.event) c.args.self.now c.loop-done.self c.perform.new.self
          c.in-Ok.answer c.loop-done.invariant.repeats c.in-Ok.ensures.ok busy;
    }
