use Rattle.std.proofs.Common.{◌≡◌, ℕ, ◌+◌, ◌<◌, ◌≤◌, ◌^◌, ◌∙◌, ap, arith, drop, length, refl, subst, sym, take}
use Rattle.std.specs.Prelude.{slice_get}
use Rattle.em_named.specs.Names.{names}
use Rattle.em_named.proofs.NameLaws.{get-drop}
use Rattle.em_named.specs.Numbers.{end_of}
use Rattle.em_tape.specs.Tape.{Tape, standing}
use Rattle.em_tape.proofs.NotedLaws.{room_of}
use Rattle.em_tape.proofs.StandingLaws.{none-stands, some_named}
use Rattle.em_tape.proofs.tape.Tape.name_back.Goals as goal

pub returns-then-k-saturating_sub-clause-is : goal.returns-then-k-saturating_sub-clause-is
returns-then-k-saturating_sub-clause-is c =
    let inside = c.self.inside in
    rw (← c.self.view_is) (sym (none-stands inside.whole inside.back c.args.k inside.did.items c.self.invariant.tape.known
    (omega (arith, c.if-k-saturating_sub.true, c.saturating_sub.ensures, c.self.invariant.end))))

pub returns-clause-is : goal.returns-clause-is
returns-clause-is c =
    let inside = c.self.inside in
    let deep = inside.back + c.args.k in
    rw (← c.self.view_is) (c.name_at.ensures
    ∙ ap (λ ds. slice_get (names (take inside.whole ds)) deep) c.as_slice.ensures.value
    ∙ sym (get-drop inside.back c.args.k (names (take inside.whole inside.did.items))))

pub returns-clause-named : goal.returns-clause-named
returns-clause-named c =
    let inside = c.self.inside in
    let did = inside.did.items in
    let tape = c.self.invariant.tape in
    let deep = inside.back + c.args.k in
    let is : c.name_at.result ≡ slice_get (drop inside.back (names (take inside.whole did))) c.args.k =
    c.name_at.ensures ∙ ap (λ ds. slice_get (names (take inside.whole ds)) deep) c.as_slice.ensures.value
    ∙ sym (get-drop inside.back c.args.k (names (take inside.whole did))) in
    some_named c.args.self.now c.args.k c.name_at.result
    (subst (λ (t : Tape). c.name_at.result ≡ slice_get (standing t) c.args.k) c.self.view_is is)
    (subst (λ (t : Tape). t.whole ≤ length t.did) c.self.view_is tape.known)
    (subst (λ (t : Tape). (n : ℕ) → end_of n t.did < 2 ^ 63) c.self.view_is
    (room_of did did refl tape.counts (omega (arith, tape.performed, tape.few))))
