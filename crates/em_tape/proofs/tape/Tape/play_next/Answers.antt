use Rattle.std.proofs.Common.{◌≡◌, ◌+◌, ◌<◌, ◌∷◌, ◌++◌, ◌∙◌, [], Some, length, take, ap, sym, refl, subst, arith}
use Rattle.std.specs.Prelude.{slice_get, is_ok, ◌&&◌}
use Rattle.std.proofs.lemmas.List.{length-map}
use Rattle.em_tape.specs.Texts.{texts}
use Rattle.em_journal.specs.Settings.{new_machine}
use Rattle.em_script.specs.Session.{bare}
use Rattle.em_tape.specs.Moves.{noted}
use Rattle.em_tape.specs.Tape.{Tape, IsAt}
use Rattle.em_tape.proofs.TapeLaws.{line_in, short_at}
use Rattle.em_tape.proofs.KeptLaws.{holds_play, same_tape, told_of}
use Rattle.em_tape.proofs.tape.Tape.play_next.Goals as goal

pub play-requires : goal.play-requires
play-requires g c =
    let lines = c.self.inside.lines.items in
    let ahead : c.self.inside.whole < length (texts lines) =
    subst (λ (t : Tape). t.whole < length t.lines) (sym c.self.view_is) c.requires.ahead in
    let within : c.self.inside.whole < length lines = omega (arith, length-map lines (λ v. v.items)) in
    let is : slice_get (texts lines) c.self.inside.whole ≡ Some c.as_slice-line.result.now =
    line_in lines c.self.inside.whole c.index.result.now within c.index.ensures
    ∙ ap Some (sym c.as_slice-line.ensures) in
    short_at (texts lines) c.self.inside.whole c.as_slice-line.result.now c.self.invariant.tape.short is

pub invariant_of-self : goal.invariant_of-self
invariant_of-self g c = rw (c.reserve.ensures.items) c.self.invariant

pub invariant_of-self-then-is_err-2 : goal.invariant_of-self-then-is_err-2
invariant_of-self-then-is_err-2 g c =
    rw (c.reserve.ensures.items, c.reserve-else-is_err.ensures.items) c.self.invariant

pub invariant_of-self-in_err-played : goal.invariant_of-self-in_err-played
invariant_of-self-in_err-played g c =
    rw (c.reserve.ensures.items, c.reserve-else-is_err.ensures.items, c.in_err-played.ensures.same refl) c.self.invariant

pub invariant_of-self-2 : goal.invariant_of-self-2
invariant_of-self-2 g c =
    let inside = c.self.inside in
    let lines = inside.lines.items in
    let whole = inside.whole in
    let ahead : whole < length (texts lines) =
    subst (λ (t : Tape). t.whole < length t.lines) (sym c.self.view_is) c.requires.ahead in
    let within : whole < length lines = omega (arith, length-map lines (λ v. v.items)) in
    let is : slice_get (texts lines) whole ≡ Some c.as_slice-line.result.now =
    line_in lines whole c.index.result.now within c.index.ensures ∙ ap Some (sym c.as_slice-line.ensures) in
    let none : inside.back ≡ 0 = ap (λ (t : Tape). t.back) c.self.view_is ∙ c.requires.whole in
    let played = c.in_ok-played.played in
    let did : c.note.new.all.items ≡ noted whole played.did inside.did.items =
    c.note.ensures ∙ ap (noted whole played.did) c.reserve.ensures.items in
    let known : c.keep.new.all.items ≡ take whole inside.known.items ++ played.known ∷ [] =
    c.keep.ensures ∙ ap (λ ds. take whole ds ++ played.known ∷ []) c.reserve-else-is_err.ensures.items in
    let is_played = c.in_ok-played.ensures.done in
    let answered : c.both-answered.result ≡ inside.answered && is_ok played.replied =
    c.both-answered.ensures ∙ ap (λ b. inside.answered && b) c.is_ok.ensures.value in
    rw (did, known, answered, c.performed_by.ensures) (holds_play (texts lines) c.as_slice-line.result.now played.did played.known
    c.self.invariant none ahead is is_played.performs
    (told_of inside.answered (is_ok played.replied) is_played.did) is_played.few is_played.known c.in_ok-played.ensures.room)

pub returns-clause-done : goal.returns-clause-done
returns-clause-done g c =
    let inside = c.self.inside in
    let lines = inside.lines.items in
    let first = bare (new_machine inside.settings) in
    let whole = inside.whole in
    let ahead : whole < length (texts lines) =
    subst (λ (t : Tape). t.whole < length t.lines) (sym c.self.view_is) c.requires.ahead in
    let within : whole < length lines = omega (arith, length-map lines (λ v. v.items)) in
    let is : slice_get (texts lines) whole ≡ Some c.as_slice-line.result.now =
    line_in lines whole c.index.result.now within c.index.ensures ∙ ap Some (sym c.as_slice-line.ensures) in
    let none : inside.back ≡ 0 = ap (λ (t : Tape). t.back) c.self.view_is ∙ c.requires.whole in
    let played = c.in_ok-played.played in
    let did : c.note.new.all.items ≡ noted whole played.did inside.did.items =
    c.note.ensures ∙ ap (noted whole played.did) c.reserve.ensures.items in
    let is_played = c.in_ok-played.ensures.done in
    let answered : c.both-answered.result ≡ inside.answered && is_ok played.replied =
    c.both-answered.ensures ∙ ap (λ b. inside.answered && b) c.is_ok.ensures.value in
    rw (← c.self.view_is) (record {
      line = c.as_slice-line.result.now;
      next = is;
      before = inside.session;
      place = subst (λ b. IsAt first (take whole (texts lines)) b inside.session) none c.self.invariant.tape.place;
      here = λ _. refl;
      performs = is_played.performs;
      did = played.did;
      does = is_played.did;
      tape = same_tape first c.play.new.session (texts lines) c.note.new.all.items _ c.both-answered.result _ (whole + 1)
          inside.back did answered none;
    })
