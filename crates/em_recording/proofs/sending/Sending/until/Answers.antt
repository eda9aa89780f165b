use Rattle.std.proofs.Common.{◌≡◌, ◌∙◌, ℕ, arith, subst}
use Rattle.em_recording.specs.Sending.{IsSending}
use Rattle.em_recording.proofs.GatheredLaws.{all_gathered}
use Rattle.em_recording.proofs.WireLaws.{all_sent}
use Rattle.em_recording.proofs.sending.Sending.until.Goals as goal

pub loop-k-init : goal.loop-k-init
loop-k-init c = record {
  sent = all_sent c.args.machine.now c.wire_len.result c.wire_len.ensures;
  gathered = all_gathered c.args.machine.now c.in_ok-copied.field-0.items (c.in_ok-copied.ensures ∙ c.gathered.ensures);
}

pub returns : goal.returns
returns c =
    let there : c.loop-k.k ≡ c.args.back = omega arith in
    record { ok = subst (λ (k : ℕ). IsSending c.args.machine.now k c.loop-k.sending) there c.loop-k.invariant }
