use Rattle.std.proofs.Common.{◌++◌, refl}
use Rattle.std.specs.Prelude.{codes}
use Rattle.std.proofs.lemmas.Result.{MatchResult-from_err}
use Rattle.em_text.proofs.WritingLemmas.{WroteFront-more, WroteFront-none, WroteFront-part, Writes-more}
use Rattle.em_reasons.specs.LookText.{look_text}
use Rattle.em_debugger.specs.Why.{look_line}
use Rattle.em_debugger.proofs.why.write_look_line.Goals as goal

pub returns-in_err-write_whole : goal.returns-in_err-write_whole
returns-in_err-write_whole g c =
    let look = look_text c.args.tape.now.session.machine.present c.args.look in
    let wrote-0 = WroteFront-none (g.W.Write.contents c.args.writer.now) (look_line c.args.tape.now c.args.look) in
    record {
      writes = MatchResult-from_err _ _ _ c.from_residual.ensures.0 (λ _.
          WroteFront-part (look ++ codes "\n") wrote-0 refl c.in_err-write_whole.ensures.writes);
    }

pub returns-in_err-write_look : goal.returns-in_err-write_look
returns-in_err-write_look g c =
    let wrote-0 = WroteFront-none (g.W.Write.contents c.args.writer.now) (look_line c.args.tape.now c.args.look) in
    let wrote-1 = WroteFront-more (codes "  ") wrote-0 refl c.in_ok-write_whole.ensures.writes in
    record {
      writes = MatchResult-from_err _ _ _ c.from_residual-in_err-write_look.ensures.0 (λ _.
          WroteFront-part (codes "\n") wrote-1 refl (rw c.machine.ensures.value at c.in_err-write_look.ensures.writes));
    }

pub returns : goal.returns
returns g c =
    let look = look_text c.args.tape.now.session.machine.present c.args.look in
    let wrote-0 = WroteFront-none (g.W.Write.contents c.args.writer.now) (look_line c.args.tape.now c.args.look) in
    let wrote-1 = WroteFront-more (codes "  ") wrote-0 refl c.in_ok-write_whole.ensures.writes in
    let wrote-2 = WroteFront-more look wrote-1 refl (rw c.machine.ensures.value at c.in_ok-write_look.ensures.writes) in
    record {
      writes = Writes-more _ _ _ _ wrote-2.front (codes "\n") _ wrote-2.written c.write_whole-2.ensures.writes
          wrote-2.whole;
    }
