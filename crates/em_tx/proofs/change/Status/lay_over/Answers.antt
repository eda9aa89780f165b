use Rattle.std.proofs.Common.{◌∙◌, ℕ, ap}
use Rattle.em_mem.specs.Memory.{Patch}
use Rattle.em_mem.specs.Window.{lay_over}
use Rattle.em_tx.proofs.change.Status.lay_over.Goals as goal

pub returns : goal.returns
returns c =
    let patch : ℕ → Patch = λ a. record { at = a; octets = c.self.inside.octet } in
    c.lay_over.ensures.octets
    ∙ ap (λ (p : Patch). lay_over c.args.addr c.args.window.now p) (ap patch c.addr.ensures.addr ∙ c.self.view_is)
