use Rattle.std.proofs.Common.{◌++◌, None, codes, refl}
use Rattle.std.proofs.lemmas.Result.{MatchResult-from_err}
use Rattle.em_text.proofs.WritingLemmas.{Writes-more, WroteFront-more, WroteFront-none, WroteFront-part}
use Rattle.em_named.specs.Numbers.{end_of}
use Rattle.em_debugger.specs.Marks.{marks_of}
use Rattle.em_debugger.specs.Who.{noted_text}
use Rattle.em_debugger.specs.Warned.{place_line, text_of_rule}
use Rattle.em_debugger.proofs.debugger.Debugger.write_place.Goals as goal

pub returns-in_err-write_noted : goal.returns-in_err-write_noted
returns-in_err-write_noted g c =
    let d = c.args.self.now in
    let rule = c.args.rule in
    let line = c.args.line in
    let wrote-0 = WroteFront-none (g.W.Write.contents c.args.writer.now) (place_line d rule line) in
    record {
      writes = MatchResult-from_err _ _ _ c.from_residual.ensures.0 (λ _.
          WroteFront-part (codes "\n  " ++ (text_of_rule d rule line)) wrote-0 refl (rw c.end_of-event.ensures at c.in_err-write_noted.ensures.writes));
    }

pub returns-in_err-write_whole : goal.returns-in_err-write_whole
returns-in_err-write_whole g c =
    let d = c.args.self.now in
    let rule = c.args.rule in
    let line = c.args.line in
    let wrote-0 = WroteFront-none (g.W.Write.contents c.args.writer.now) (place_line d rule line) in
    let wrote-1 = WroteFront-more (noted_text (marks_of d) d.tape (end_of line d.tape.did) None line) wrote-0 refl (rw c.end_of-event.ensures at c.in_ok-write_noted.ensures.writes) in
    record {
      writes = MatchResult-from_err _ _ _ c.from_residual-in_err-write_whole.ensures.0 (λ _.
          WroteFront-part (text_of_rule d rule line) wrote-1 refl c.in_err-write_whole.ensures.writes);
    }

pub returns : goal.returns
returns g c =
    let d = c.args.self.now in
    let rule = c.args.rule in
    let line = c.args.line in
    let wrote-0 = WroteFront-none (g.W.Write.contents c.args.writer.now) (place_line d rule line) in
    let wrote-1 = WroteFront-more (noted_text (marks_of d) d.tape (end_of line d.tape.did) None line) wrote-0 refl (rw c.end_of-event.ensures at c.in_ok-write_noted.ensures.writes) in
    let wrote-2 = WroteFront-more (codes "\n  ") wrote-1 refl c.in_ok-write_whole.ensures.writes in
    record {
      writes = Writes-more _ _ _ _ wrote-2.front (text_of_rule d rule line) _ wrote-2.written c.write_text.ensures.writes wrote-2.whole;
    }
