use Rattle.std.proofs.Common.{◌∙◌, ℕ, ap}
use Rattle.em_mem.specs.Memory.{Patch}
use Rattle.em_mem.specs.Extent.{next_octet}
use Rattle.em_tx.proofs.change.Status.next_octet.Goals as goal

pub returns : goal.returns
returns c =
    let patch : ℕ → Patch = λ a. record { at = a; octets = c.self.inside.octet } in
    c.next_octet.ensures.next
    ∙ ap (λ (p : Patch). next_octet c.args.addr p) (ap patch c.addr.ensures.addr ∙ c.self.view_is)
