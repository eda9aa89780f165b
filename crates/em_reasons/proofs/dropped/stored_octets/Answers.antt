use Rattle.std.proofs.Common.{◌≡◌, ◌+◌, ◌-◌, ◌≤◌, ◌∙◌, true, false, length, sym, arith}
use Rattle.em_filter.specs.Vlan.{tagged}
use Rattle.em_rx.specs.Frame.{len_of}
use Rattle.em_step.specs.Arrival.{kept_frame}
use Rattle.em_step.proofs.ArrivalLaws.{stored_by}
use Rattle.em_reasons.proofs.DropLemmas.{tagged_long}
use Rattle.em_reasons.proofs.dropped.stored_octets.Goals as goal

pub overflow_sub-result : goal.overflow_sub-result
overflow_sub-result c =
    let m = c.args.machine.now.present.registers in
    let so : tagged m c.args.frame.now ≡ true = sym c.is_tagged.ensures ∙ c.if-is_tagged.true in
    let long : 16 ≤ length c.args.frame.now = tagged_long m c.args.frame.now so in
    omega arith

pub returns-then-is_tagged : goal.returns-then-is_tagged
returns-then-is_tagged c =
    stored_by c.args.machine.now.present c.args.frame.now c.check_octets.result true
    (tagged_long c.args.machine.now.present.registers c.args.frame.now) c.check_octets.ensures (sym c.if-is_tagged.true ∙ c.is_tagged.ensures)

pub returns-else-is_tagged : goal.returns-else-is_tagged
returns-else-is_tagged c =
    let s = c.args.machine.now.present in
    let f = c.args.frame.now in
    let is : (length f + c.check_octets.result) - 0 ≡ len_of (kept_frame s f)
    = stored_by s f c.check_octets.result false (tagged_long s.registers f) c.check_octets.ensures
    (sym c.if-is_tagged.false ∙ c.is_tagged.ensures) in
    omega (arith, is)
