use Rattle.std.proofs.Common.{◌≡◌, ◌≤◌, ◌∙◌, length, take, ap, sym, subst, arith}
use Rattle.std.specs.Prelude.{All}
use Rattle.std.proofs.lemmas.List.{length-map, length-take-le, take-map}
use Rattle.std.proofs.lemmas.List.Elements.{All-take}
use Rattle.em_tape.specs.Texts.{texts}
use Rattle.em_tape.specs.Tape.{Tape, IsShort}
use Rattle.em_tape.proofs.KeptLaws.{holds_at, known_more, known_told}
use Rattle.em_tape.proofs.tape.Tape.replay_to.Goals as goal

pub replayed-requires-clause-short : goal.replayed-requires-clause-short
replayed-requires-clause-short c =
    let lines = c.self.inside.lines.items in
    let is : take c.args.line (texts lines) ≡ texts (take c.args.line c.as_slice.result.now) =
    take-map (λ v. v.items) c.args.line lines
    ∙ ap (λ ls. texts (take c.args.line ls)) (sym c.as_slice.ensures.value) in
    subst (All IsShort) is (All-take IsShort c.args.line (texts lines) c.self.invariant.tape.short)

pub invariant_of-self : goal.invariant_of-self
invariant_of-self c =
    let inside = c.self.inside in
    let lines = texts inside.lines.items in
    let line = c.args.line in
    let some = texts (take line c.as_slice.result.now) in
    let is : take line lines ≡ some =
    take-map (λ v. v.items) line inside.lines.items ∙ ap (λ ls. texts (take line ls)) (sym c.as_slice.ensures.value) in
    let within : line ≤ length inside.did.items =
    subst (λ (t : Tape). line ≤ length t.did) (sym c.self.view_is) c.requires in
    let count : length (take line c.as_slice.result.now) ≡ line =
    length-take-le line c.as_slice.result.now (omega (
      arith,
      ap length c.as_slice.ensures.value,
      length-map inside.lines.items (λ v. v.items),
      c.self.invariant.tape.performed,
    )) in
    rw c.put.ensures (holds_at line c.self.invariant within (rw (← c.self.view_is) at c.end_of-end.ensures)
    (known_told inside.answered (known_more count is (omega (arith, c.self.invariant.tape.performed))
    (rw c.as_slice-2.ensures.value at c.in-Ok.ensures.ok))) c.in-Ok.ensures.room)
