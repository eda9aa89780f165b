use Rattle.std.proofs.Common.{◌++◌, refl}
use Rattle.std.specs.Prelude.{codes}
use Rattle.std.proofs.lemmas.Result.{MatchResult-from_err}
use Rattle.em_text.proofs.WritingLemmas.{WroteFront-more, WroteFront-none, WroteFront-part, Writes-more}
use Rattle.em_noted.specs.Note.{note_text}
use Rattle.em_recording.specs.Was.{spoken_text}
use Rattle.em_recording.proofs.was.write_spoken.Goals as goal

pub returns-in_err-write_whole : goal.returns-in_err-write_whole
returns-in_err-write_whole g c =
    let wrote-0 = WroteFront-none (g.W.Write.contents c.args.writer.now) (spoken_text c.args.note) in
    record {
      writes = MatchResult-from_err _ _ _ c.from_residual.ensures.0 (λ _.
          WroteFront-part (note_text c.args.note ++ codes "\"") wrote-0 refl c.in_err-write_whole.ensures.writes);
    }

pub returns-in_err-write_note : goal.returns-in_err-write_note
returns-in_err-write_note g c =
    let wrote-0 = WroteFront-none (g.W.Write.contents c.args.writer.now) (spoken_text c.args.note) in
    let wrote-1 = WroteFront-more (codes ",\"text\":\"") wrote-0 refl c.in_ok-write_whole.ensures.writes in
    record {
      writes = MatchResult-from_err _ _ _ c.from_residual-in_err-write_note.ensures.0 (λ _.
          WroteFront-part (codes "\"") wrote-1 refl c.in_err-write_note.ensures.writes);
    }

pub returns : goal.returns
returns g c =
    let wrote-0 = WroteFront-none (g.W.Write.contents c.args.writer.now) (spoken_text c.args.note) in
    let wrote-1 = WroteFront-more (codes ",\"text\":\"") wrote-0 refl c.in_ok-write_whole.ensures.writes in
    let wrote-2 = WroteFront-more (note_text c.args.note) wrote-1 refl c.in_ok-write_note.ensures.writes in
    record {
      writes = Writes-more _ _ _ _ wrote-2.front (codes "\"") _ wrote-2.written c.write_whole-2.ensures.writes
          wrote-2.whole;
    }
