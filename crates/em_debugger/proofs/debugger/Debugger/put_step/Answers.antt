use Rattle.std.proofs.Common.{◌∙◌, ap, refl}
use Rattle.em_tape.specs.Texts.{texts}
use Rattle.em_debugger.specs.Told.{closed}
use Rattle.em_debugger.proofs.ToldLaws.{closed-moved}
use Rattle.em_debugger.proofs.debugger.Debugger.put_step.Goals as goal

pub returns-in_default-make_way-clause-err : goal.returns-in_default-make_way-clause-err
returns-in_default-make_way-clause-err c =
    let at = c.whole-whole.result in
    record {
      rest = refl;
      wanted = c.close_up.ensures ∙ ap (closed at) c.in-Ok.ensures.ok
          ∙ closed-moved at (texts c.args.self.now.wanted.answers.items);
      marks = c.in_default-make_way.ensures.err;
    }

pub returns-in-Err-clause-err : goal.returns-in-Err-clause-err
returns-in-Err-clause-err c =
    let old = c.args.self.now in
    let at = c.whole-whole.result in
    record {
      rest = ap (λ t. record old { tape = t; wanted = c.close_up-in-Err.new.self; marks = c.close_up-in-Err-2.new.self })
          c.in-Err.ensures.err;
      wanted = c.close_up-in-Err.ensures ∙ ap (closed at) c.in-Ok.ensures.ok
          ∙ closed-moved at (texts old.wanted.answers.items);
      marks = c.close_up-in-Err-2.ensures ∙ ap (closed at) c.in-Ok-make_way.ensures.ok
          ∙ closed-moved at (texts old.marks.answers.items);
    }
