use Rattle.std.proofs.Common.{◌≤◌, length, refl, sym, subst}
use Rattle.em_tape.specs.Texts.{texts}
use Rattle.em_journal.specs.Settings.{new_machine}
use Rattle.em_script.specs.Session.{bare}
use Rattle.em_tape.specs.Known.{IsKnown}
use Rattle.em_tape.specs.Tape.{Tape}
use Rattle.em_tape.proofs.KeptLaws.{holds_at}
use Rattle.em_tape.proofs.tape.Tape.goes_along.Goals as goal

pub invariant_of-self : goal.invariant_of-self
invariant_of-self c =
    let inside = c.self.inside in
    let first = bare (new_machine inside.settings) in
    let lines = texts inside.lines.items in
    let line = c.args.line in
    let within : line ≤ length inside.did.items =
    subst (λ (t : Tape). line ≤ length t.did) (sym c.self.view_is) c.requires in
    let known : IsKnown first (texts c.as_slice.result.now) inside.did.items inside.answered c.as_slice-2.result.now inside.whole inside.back inside.session =
    rw (c.as_slice.ensures.value, c.as_slice-2.ensures.value) c.self.invariant.known in
    let gone : IsKnown first lines inside.did.items inside.answered inside.known.items line 0 c.go_along-gone.new.session =
    rw (← c.as_slice.ensures.value, ← c.as_slice-2.ensures.value) (c.go_along-gone.ensures.there c.if-gone.true first inside.did.items inside.answered known) in
    holds_at line c.self.invariant within (rw (← c.self.view_is) at c.end_of-end.ensures) gone c.go_along-gone.ensures.room

pub invariant_of-self-else-gone : goal.invariant_of-self-else-gone
invariant_of-self-else-gone c =
    let inside = c.self.inside in
    let first = bare (new_machine inside.settings) in
    let known : IsKnown first (texts c.as_slice.result.now) inside.did.items inside.answered c.as_slice-2.result.now inside.whole inside.back inside.session =
    rw (c.as_slice.ensures.value, c.as_slice-2.ensures.value) c.self.invariant.known in
    rw (c.go_along-gone.ensures.same c.if-gone.false first inside.did.items inside.answered known) c.self.invariant

pub returns-else-gone-clause-same : goal.returns-else-gone-clause-same
returns-else-gone-clause-same c = λ _.
    let inside = c.self.inside in
    let first = bare (new_machine inside.settings) in
    let known : IsKnown first (texts c.as_slice.result.now) inside.did.items inside.answered c.as_slice-2.result.now inside.whole inside.back inside.session =
    rw (c.as_slice.ensures.value, c.as_slice-2.ensures.value) c.self.invariant.known in
    rw (← c.self.view_is, c.go_along-gone.ensures.same c.if-gone.false first inside.did.items inside.answered known) refl
