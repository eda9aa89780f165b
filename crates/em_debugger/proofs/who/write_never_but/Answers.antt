use Rattle.std.proofs.Common.{refl}
use Rattle.std.proofs.lemmas.Result.{MatchResult-from_err}
use Rattle.em_text.proofs.WritingLemmas.{WroteFront-more, WroteFront-none, WroteFront-part, Writes-more}
use Rattle.em_debugger.specs.Who.{access_end, never_text, unchanged_text}
use Rattle.em_tape.specs.Texts.{texts}
use Rattle.em_debugger.proofs.who.write_never_but.Goals as goal

pub returns-in_err-write_unchanged : goal.returns-in_err-write_unchanged
returns-in_err-write_unchanged g c =
    let wrote-0 = WroteFront-none (g.W.Write.contents c.args.writer.now) (never_text (texts c.args.marks.now.answers.items) c.args.tape.now c.args.watch c.args.is_before c.args.accessed) in
    record {
      writes = MatchResult-from_err _ _ _ c.from_residual.ensures.0 (λ _.
          WroteFront-part (access_end (texts c.args.marks.now.answers.items) c.args.tape.now c.args.accessed) wrote-0 refl c.in_err-write_unchanged.ensures.writes);
    }

pub returns : goal.returns
returns g c =
    let wrote-0 = WroteFront-none (g.W.Write.contents c.args.writer.now) (never_text (texts c.args.marks.now.answers.items) c.args.tape.now c.args.watch c.args.is_before c.args.accessed) in
    let wrote-1 = WroteFront-more (unchanged_text c.args.watch c.args.is_before) wrote-0 refl c.in_ok-write_unchanged.ensures.writes in
    record {
      writes = Writes-more _ _ _ _ wrote-1.front (access_end (texts c.args.marks.now.answers.items) c.args.tape.now c.args.accessed) _ wrote-1.written c.write_access_end.ensures.writes wrote-1.whole;
    }
