use Rattle.std.proofs.Common.{◌++◌, refl, Some}
use Rattle.std.specs.Prelude.{codes}
use Rattle.std.proofs.lemmas.Result.{MatchResult-from_err}
use Rattle.em_text.proofs.WritingLemmas.{WroteFront-more, WroteFront-none, WroteFront-part, Writes-more}
use Rattle.em_debugger.specs.Accessed.{came_text}
use Rattle.em_debugger.specs.Who.{accessed_text, event_text}
use Rattle.em_tape.specs.Texts.{texts}
use Rattle.em_debugger.proofs.who.write_accessed.Goals as goal

pub returns-in_err-write_whole : goal.returns-in_err-write_whole
returns-in_err-write_whole g c =
    let a = c.args.accessed in
    let event = event_text (texts c.args.marks.now.answers.items) c.args.tape.now a.event (Some a.note) in
    let came = came_text a.note.kind a.note.value a.seen in
    let wrote-0 = WroteFront-none (g.W.Write.contents c.args.writer.now) (accessed_text (texts c.args.marks.now.answers.items) c.args.tape.now a) in
    record {
      writes = MatchResult-from_err _ _ _ c.from_residual.ensures.0 (λ _.
          WroteFront-part (event ++ (came ++ codes "\n")) wrote-0 refl c.in_err-write_whole.ensures.writes);
    }

pub returns-in_err-write_event : goal.returns-in_err-write_event
returns-in_err-write_event g c =
    let a = c.args.accessed in
    let came = came_text a.note.kind a.note.value a.seen in
    let wrote-0 = WroteFront-none (g.W.Write.contents c.args.writer.now) (accessed_text (texts c.args.marks.now.answers.items) c.args.tape.now a) in
    let wrote-1 = WroteFront-more (codes "; ") wrote-0 refl c.in_ok-write_whole.ensures.writes in
    record {
      writes = MatchResult-from_err _ _ _ c.from_residual-in_err-write_event.ensures.0 (λ _.
          WroteFront-part (came ++ codes "\n") wrote-1 refl c.in_err-write_event.ensures.writes);
    }

pub returns-in_err-write_came : goal.returns-in_err-write_came
returns-in_err-write_came g c =
    let a = c.args.accessed in
    let event = event_text (texts c.args.marks.now.answers.items) c.args.tape.now a.event (Some a.note) in
    let wrote-0 = WroteFront-none (g.W.Write.contents c.args.writer.now) (accessed_text (texts c.args.marks.now.answers.items) c.args.tape.now a) in
    let wrote-1 = WroteFront-more (codes "; ") wrote-0 refl c.in_ok-write_whole.ensures.writes in
    let wrote-2 = WroteFront-more event wrote-1 refl c.in_ok-write_event.ensures.writes in
    record {
      writes = MatchResult-from_err _ _ _ c.from_residual-in_err-write_came.ensures.0 (λ _.
          WroteFront-part (codes "\n") wrote-2 refl c.in_err-write_came.ensures.writes);
    }

pub returns : goal.returns
returns g c =
    let a = c.args.accessed in
    let event = event_text (texts c.args.marks.now.answers.items) c.args.tape.now a.event (Some a.note) in
    let came = came_text a.note.kind a.note.value a.seen in
    let wrote-0 = WroteFront-none (g.W.Write.contents c.args.writer.now) (accessed_text (texts c.args.marks.now.answers.items) c.args.tape.now a) in
    let wrote-1 = WroteFront-more (codes "; ") wrote-0 refl c.in_ok-write_whole.ensures.writes in
    let wrote-2 = WroteFront-more event wrote-1 refl c.in_ok-write_event.ensures.writes in
    let wrote-3 = WroteFront-more came wrote-2 refl c.in_ok-write_came.ensures.writes in
    record {
      writes = Writes-more _ _ _ _ wrote-3.front (codes "\n") _ wrote-3.written c.write_whole-2.ensures.writes wrote-3.whole;
    }
