-- The octets of the piece are laid first, and then those of the descriptor's end.
use Rattle.std.proofs.Common.{◌≡◌, ℕ, List, take, ap, ◌∙◌}
use Rattle.em_mem.specs.Memory as memory
use Rattle.em_mem.specs.OldOctets.{OldOctets}
use Rattle.em_mem.specs.Window.{lay_over}
use Rattle.em_mem.proofs.OldOctetsLaws.{first-given_up}
use Rattle.em_mem.proofs.WindowLaws.{window-undone}
use Rattle.em_rx.specs.Records.{step_patch}
use Rattle.em_rx.specs.StepPatch.{StepPatch}
use Rattle.em_rx.proofs.undo.OldPiece.lay_over.Goals as goal

pub returns-clause-before : goal.returns-clause-before
returns-clause-before c = λ cells m fits is.
    let r = c.args.self.now in
    let p : StepPatch = step_patch r c.args.old.now in
    let between = c.lay_both_over.new.window in
    let one : between ≡ lay_over c.args.addr c.args.window.now p.first
    = c.lay_both_over.ensures
    ∙ ap (λ (d : List ℕ). lay_over c.args.addr c.args.window.now (record { at = r.buffer; octets = d }))
    c.first.ensures in
    let both : c.lay_both_over-2.new.window ≡ lay_over c.args.addr between p.second
    = c.lay_both_over-2.ensures
    ∙ ap (λ (d : List ℕ). lay_over c.args.addr between (record { at = r.end_at; octets = d }))
    (c.first-2.ensures
    ∙ ap (λ (o : OldOctets). take 8 o.octets) c.behind.ensures.seen
    ∙ first-given_up c.args.old.now r.len 8 c.requires.whole) in
    window-undone c.args.addr between c.lay_both_over-2.new.window p.second both (memory.undo m p.first) fits.second
    (window-undone c.args.addr c.args.window.now between p.first one m fits.first is)
