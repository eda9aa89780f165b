use Rattle.std.proofs.Common.{◌≡◌, ◌+◌, ◌<◌, ◌∙◌, Some, length, take, refl, ap, sym, arith}
use Rattle.std.specs.Prelude.{slice_get}
use Rattle.std.proofs.lemmas.List.{take_more}
use Rattle.em_tape.specs.Texts.{texts}
use Rattle.em_script.specs.PlayedLine.{after_all}
use Rattle.em_script.specs.Session.{Session}
use Rattle.em_tape.specs.Known.{events_in}
use Rattle.em_tape.specs.Tape.{taken_back}
use Rattle.em_tape.specs.declared.known.Known.TheVariants.{Nothing}
use Rattle.em_tape.proofs.AgainLaws.{along, done_at, events_push, one_at_most}
use Rattle.em_tape.proofs.TapeLaws.{line_in, past_back, short_at}
use Rattle.em_tape.proofs.again.perform_again.Goals as goal

pub do_again-requires : goal.do_again-requires
do_again-requires c =
    let ls = c.args.lines.now in
    let k = c.loop-done.done in
    let within : k < length ls = omega (arith, c.requires.known, c.loop-done-test.true) in
    let is : slice_get (texts ls) k ≡ Some c.as_slice.result.now =
    line_in ls k c.index-lines-done.result within c.index-lines-done.is ∙ ap Some (sym c.as_slice.ensures) in
    short_at (texts ls) k c.as_slice.result.now c.requires.short is

pub returns-in-None-clause-same : goal.returns-in-None-clause-same
returns-in-None-clause-same c = λ failed all done.
    let ls = c.args.lines.now in
    let did = c.args.known.now in
    let first = c.args.session.now in
    let k = c.loop-done.done in
    let within : k < length ls = omega (arith, c.requires.known, c.loop-done-test.true) in
    let is : slice_get (texts ls) k ≡ Some c.as_slice.result.now =
    line_in ls k c.index-lines-done.result within c.index-lines-done.is ∙ ap Some (sym c.as_slice.ensures) in
    let here = c.loop-done.invariant.here all done in
    let does = done_at k Nothing c.as_slice.result.now all did (texts ls) first c.loop-done.session done here
    c.loop-done-test.true is in
    c.back_by-taken.ensures.session
    ∙ ap (taken_back c.loop-done.events) (c.in-None.ensures.same refl (after_all (take (k + 1) all) first) does ∙ here)
    ∙ along k c.loop-done.events did all first done.does c.loop-done.invariant.within c.loop-done.invariant.events

pub returns-in-None-clause-room : goal.returns-in-None-clause-room
returns-in-None-clause-room c =
    let left = past_back c.loop-done.events c.do_again.new.session in
    let room = c.in-None.ensures.room c.loop-done.invariant.room in
    omega (arith, left, room, ap (λ (s : Session). length s.machine.past) c.back_by-taken.ensures.session)

pub loop-done-preserved : goal.loop-done-preserved
loop-done-preserved c =
    let ls = c.args.lines.now in
    let did = c.args.known.now in
    let first = c.args.session.now in
    let k = c.loop-done.done in
    let within : k < length ls = omega (arith, c.requires.known, c.loop-done-test.true) in
    let is : slice_get (texts ls) k ≡ Some c.as_slice.result.now =
    line_in ls k c.index-lines-done.result within c.index-lines-done.is ∙ ap Some (sym c.as_slice.ensures) in
    let one = c.in-Some.ensures.does.0 in
    record {
      within = omega (arith, c.loop-done-test.true);
      few = omega (arith, one_at_most _ c.in-Some.more one, c.loop-done.invariant.few);
      events = ap events_in (take_more did k Nothing c.loop-done-test.true)
          ∙ events_push (take k did) _ c.loop-done.events c.in-Some.more c.loop-done.invariant.events one;
      here = λ all done. c.in-Some.ensures.does.1 (after_all (take (k + 1) all) first)
          (done_at k Nothing c.as_slice.result.now all did (texts ls) first c.loop-done.session done
          (c.loop-done.invariant.here all done) c.loop-done-test.true is);
      room = c.in-Some.ensures.room c.loop-done.invariant.room;
    }
