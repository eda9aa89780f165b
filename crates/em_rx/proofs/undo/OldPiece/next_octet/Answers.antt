-- There are as many octets as the record says, wherever they lie.
use Rattle.std.proofs.Common.{◌≡◌, take, sym, subst, ◌∙◌, arith}
use Rattle.std.proofs.lemmas.List.{length-take-le}
use Rattle.em_mem.specs.Memory.{part}
use Rattle.em_mem.specs.Extent.{SameUpTo, least}
use Rattle.em_mem.proofs.PutLaws.{length-part}
use Rattle.em_rx.specs.Before.{next_of_step}
use Rattle.em_rx.specs.Records.{step_patch}
use Rattle.em_rx.specs.StepPatch.{StepPatch}
use Rattle.em_rx.specs.Undo.{with_both}
use Rattle.em_rx.proofs.BeforeLaws.{step_same}
use Rattle.em_rx.proofs.undo.OldPiece.next_octet.Goals as goal

pub returns-clause-same : goal.returns-clause-same
returns-clause-same c = λ cells m o whole fits.
    let r = c.args.self.now in
    let p : StepPatch = step_patch r o in
    let piece = length-take-le r.len o.octets (omega (arith, whole)) in
    let end = length-part o.octets r.len 8 whole in
    let next : c.least.result ≡ next_of_step p c.args.addr
    = c.least.ensures
    ∙ (λ i. least (c.next_in.ensures (take r.len o.octets) piece i)
    (c.next_in-2.ensures (part o.octets r.len 8) end i)) in
    subst (SameUpTo m.octets (with_both m p).octets c.args.addr) (sym next) (step_same cells m p c.args.addr fits)
