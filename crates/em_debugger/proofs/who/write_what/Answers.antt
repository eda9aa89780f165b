use Rattle.std.proofs.Common.{refl}
use Rattle.std.proofs.lemmas.Result.{MatchResult-from_err}
use Rattle.em_text.proofs.WritingLemmas.{WroteFront-more, WroteFront-none, WroteFront-part, Writes-more}
use Rattle.em_noted.specs.Note.{note_text}
use Rattle.em_debugger.specs.Who.{call_text, what_text}
use Rattle.em_debugger.specs.Marks.{shown_of}
use Rattle.em_debugger.specs.Place.{events_of}
use Rattle.em_tape.specs.Texts.{texts}
use Rattle.em_debugger.proofs.who.write_what.Goals as goal

pub returns-in_err-write_call : goal.returns-in_err-write_call
returns-in_err-write_call g c =
    let wrote-0 = WroteFront-none (g.W.Write.contents c.args.writer.now) (what_text (texts c.args.marks.now.answers.items) c.args.tape.now c.args.line c.args.note) in
    record {
      writes = MatchResult-from_err _ _ _ c.from_residual.ensures.0 (λ _.
          WroteFront-part (note_text c.args.note) wrote-0 refl
          (rw c.shown_of.ensures at (rw c.events_of.ensures at c.in_err-write_call.ensures.writes)));
    }

pub returns : goal.returns
returns g c =
    let tape = c.args.tape.now in
    let wrote-0 = WroteFront-none (g.W.Write.contents c.args.writer.now) (what_text (texts c.args.marks.now.answers.items) tape c.args.line c.args.note) in
    let wrote-1 = WroteFront-more (call_text (shown_of (texts c.args.marks.now.answers.items) tape c.args.line) (events_of c.args.line tape.did)) wrote-0 refl
    (rw c.shown_of.ensures at (rw c.events_of.ensures at c.in_ok-write_call.ensures.writes)) in
    record {
      writes = Writes-more _ _ _ _ wrote-1.front (note_text c.args.note) _ wrote-1.written c.write_note.ensures.writes wrote-1.whole;
    }
