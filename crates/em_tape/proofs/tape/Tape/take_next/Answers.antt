use Rattle.std.proofs.Common.{◌≡◌, ◌+◌, ◌<◌, ◌∷◌, ◌++◌, ◌∙◌, [], Some, None, length, take, true, ap, sym, refl, subst, arith}
use Rattle.std.specs.Prelude.{slice_get, ◌&&◌}
use Rattle.std.proofs.lemmas.List.{length-map}
use Rattle.em_tape.specs.Texts.{texts}
use Rattle.em_journal.specs.Settings.{new_machine}
use Rattle.em_named.specs.declared.did.Did.TheVariants.{TookBack}
use Rattle.em_script.specs.Session.{bare}
use Rattle.em_tape.specs.Moves.{IsPlayed, noted}
use Rattle.em_tape.specs.Tape.{Tape, IsAt}
use Rattle.em_tape.specs.declared.known.Known.TheVariants.{Other}
use Rattle.em_tape.specs.declared.playing.Played.{Played}
use Rattle.em_tape.proofs.KeptLaws.{and_true, holds_taken, same_tape}
use Rattle.em_tape.proofs.NotedLaws.{noted_at}
use Rattle.em_tape.proofs.TapeLaws.{line_in}
use Rattle.em_tape.proofs.tape.Tape.take_next.Goals as goal

pub invariant_of-self : goal.invariant_of-self
invariant_of-self c = rw (c.reserve.ensures.items) c.self.invariant

pub invariant_of-self-then-is_err-2 : goal.invariant_of-self-then-is_err-2
invariant_of-self-then-is_err-2 c =
    rw (c.reserve.ensures.items, c.reserve-else-is_err.ensures.items) c.self.invariant

pub invariant_of-self-2 : goal.invariant_of-self-2
invariant_of-self-2 c =
    let inside = c.self.inside in
    let lines = inside.lines.items in
    let whole = inside.whole in
    let events = c.args.events in
    let line = c.as_slice-line.result.now in
    let ahead : whole < length (texts lines) =
    subst (λ (t : Tape). t.whole < length t.lines) (sym c.self.view_is) c.requires.ahead in
    let within : whole < length lines = omega (arith, length-map lines (λ v. v.items)) in
    let is : slice_get (texts lines) whole ≡ Some line =
    line_in lines whole c.index.result.now within c.index.ensures ∙ ap Some (sym c.as_slice-line.ensures) in
    let none : inside.back ≡ 0 = ap (λ (t : Tape). t.back) c.self.view_is ∙ c.requires.whole in
    let taken = c.take-played.ensures.played in
    let did : c.note.new.all.items ≡ noted whole (TookBack events) inside.did.items =
    c.note.ensures ∙ ap (λ (p : Played). noted whole p.did c.reserve.new.self.items) taken
    ∙ ap (noted whole (TookBack events)) c.reserve.ensures.items in
    let known : c.keep.new.all.items ≡ take whole inside.known.items ++ Other ∷ [] =
    c.keep.ensures ∙ ap (λ (p : Played). take whole c.reserve-else-is_err.new.self.items ++ p.known ∷ []) taken
    ∙ ap (λ ds. take whole ds ++ Other ∷ []) c.reserve-else-is_err.ensures.items in
    let played = subst (λ p. IsPlayed (whole + 1) line inside.session c.take-played.new.session None None p) taken
    (c.take-played.ensures.done (whole + 1) line (c.takes_back.ensures.is c.if-not-takes_back.false)) in
    rw (did, known) (holds_taken (texts lines) line events c.self.invariant none ahead is played c.take-played.ensures.session)

pub returns-clause-done : goal.returns-clause-done
returns-clause-done c = λ _.
    let inside = c.self.inside in
    let lines = inside.lines.items in
    let first = bare (new_machine inside.settings) in
    let whole = inside.whole in
    let events = c.args.events in
    let line = c.as_slice-line.result.now in
    let ahead : whole < length (texts lines) =
    subst (λ (t : Tape). t.whole < length t.lines) (sym c.self.view_is) c.requires.ahead in
    let within : whole < length lines = omega (arith, length-map lines (λ v. v.items)) in
    let is : slice_get (texts lines) whole ≡ Some line =
    line_in lines whole c.index.result.now within c.index.ensures ∙ ap Some (sym c.as_slice-line.ensures) in
    let none : inside.back ≡ 0 = ap (λ (t : Tape). t.back) c.self.view_is ∙ c.requires.whole in
    let taken = c.take-played.ensures.played in
    let did : c.note.new.all.items ≡ noted whole (TookBack events) inside.did.items =
    c.note.ensures ∙ ap (λ (p : Played). noted whole p.did c.reserve.new.self.items) taken
    ∙ ap (noted whole (TookBack events)) c.reserve.ensures.items in
    let played = subst (λ p. IsPlayed (whole + 1) line inside.session c.take-played.new.session None None p) taken
    (c.take-played.ensures.done (whole + 1) line (c.takes_back.ensures.is c.if-not-takes_back.false)) in
    rw (← c.self.view_is) (record {
      line = line;
      next = is;
      says = c.takes_back.ensures.says c.if-not-takes_back.false;
      plays = record {
        line = line;
        next = is;
        before = inside.session;
        place = subst (λ b. IsAt first (take whole (texts lines)) b inside.session) none c.self.invariant.tape.place;
        here = λ _. refl;
        performs = played.performs;
        did = TookBack events;
        does = played.did;
        tape = same_tape first c.take-played.new.session (texts lines) c.note.new.all.items _ inside.answered
            (inside.answered && true) (whole + 1) inside.back did (sym (and_true inside.answered)) none;
      };
      did = ap (λ ds. slice_get ds whole) did ∙ noted_at whole (TookBack events) inside.did.items c.self.invariant.tape.known;
    })
