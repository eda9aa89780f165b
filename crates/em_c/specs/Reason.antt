-- The reason why an event did nothing, as C sees it.
use Rattle.std.specs.Prelude.{ℕ, ◌-◌, Bool, true, false, replicate, Option, Some, None}
use Rattle.em_reasons.specs.declared.dropped.Dropped.{Dropped}
use Rattle.em_reasons.specs.declared.dropped.Dropped.TheVariants as dropped
use Rattle.em_reasons.specs.declared.refused.Bounds.{Bounds}
use Rattle.em_reasons.specs.declared.refused.Refused.{Refused as WhyRefused}
use Rattle.em_reasons.specs.declared.refused.Refused.TheVariants as undone
use Rattle.em_reasons.specs.declared.rx_idle.RxIdle.{RxIdle}
use Rattle.em_reasons.specs.declared.rx_idle.RxIdle.TheVariants as rx
use Rattle.em_reasons.specs.declared.tx_idle.TxIdle.{TxIdle}
use Rattle.em_reasons.specs.declared.tx_idle.TxIdle.TheVariants as tx
use Rattle.em_reasons.specs.declared.why.Why.{Why}
use Rattle.em_reasons.specs.declared.why.Why.TheVariants as why
use Rattle.em_reasons.specs.Explain.{why_text}
use Rattle.em_c.specs.declared.reason.EmReason.{EmReason}
use Rattle.em_c.specs.declared.rule.Rule.TheVariants as rule
use Rattle.em_c.specs.Told.{address_told}
use Rattle.em_c.specs.Line.{line_of, no_line}
use Rattle.em_c.specs.Rule.{number_of}

-- no rule, and no numbers
abbrev pub blank : EmReason
blank = record {
  address = 0;
  buffer = 0;
  octets = 0;
  most = 0;
  base = 0;
  memory = 0;
  rule = number_of rule.NoRule;
  index = 0;
  count = 0;
  value = 0;
  to = replicate 6 0;
  text = no_line;
}

-- ---- the number of the rule, and its numbers

abbrev pub of_rx_idle : RxIdle → EmReason
of_rx_idle rx.Disabled = record blank { rule = number_of rule.RxDisabled }
of_rx_idle rx.NoRing = record blank { rule = number_of rule.RxNoRing }
of_rx_idle (rx.HeadPast head count) = record blank { rule = number_of rule.RxHeadPast; index = head; count = count }
of_rx_idle (rx.TailPast tail count) = record blank { rule = number_of rule.RxTailPast; index = tail; count = count }
of_rx_idle (rx.Empty at) = record blank { rule = number_of rule.RxEmpty; index = at }
of_rx_idle rx.NoFrame = record blank { rule = number_of rule.RxNoFrame }

abbrev pub of_tx_idle : TxIdle → EmReason
of_tx_idle tx.Disabled = record blank { rule = number_of rule.TxDisabled }
of_tx_idle tx.NoRing = record blank { rule = number_of rule.TxNoRing }
of_tx_idle (tx.HeadPast head count) = record blank { rule = number_of rule.TxHeadPast; index = head; count = count }
of_tx_idle (tx.TailPast tail count) = record blank { rule = number_of rule.TxTailPast; index = tail; count = count }
of_tx_idle (tx.Empty at) = record blank { rule = number_of rule.TxEmpty; index = at }
of_tx_idle tx.LinkDown = record blank { rule = number_of rule.TxLinkDown }

-- a CFI is 1 or 0
abbrev pub cfi_told : Bool → ℕ
cfi_told true = 1
cfi_told false = 0

abbrev pub of_dropped : Dropped → EmReason
of_dropped dropped.Down = record blank { rule = number_of rule.FrameDown }
of_dropped dropped.Disabled = record blank { rule = number_of rule.FrameDisabled }
of_dropped (dropped.Unicast to) = record blank { rule = number_of rule.FrameUnicast; to = to }
of_dropped (dropped.Multicast to hash) = record blank { rule = number_of rule.FrameMulticast; to = to; value = hash }
of_dropped (dropped.Broadcast hash) =
    record blank { rule = number_of rule.FrameBroadcast; to = replicate 6 255; value = hash }
of_dropped (dropped.Undersize octets) =
    record blank { rule = number_of rule.FrameUndersize; octets = octets; most = 64 }
of_dropped (dropped.Oversize octets most) =
    record blank { rule = number_of rule.FrameOversize; octets = octets; most = most }
of_dropped (dropped.Overlong octets most) =
    record blank { rule = number_of rule.FrameOversize; octets = octets; most = most }
of_dropped (dropped.Vlan identifier) = record blank { rule = number_of rule.FrameVlan; value = identifier }
of_dropped (dropped.Control to hash) = record blank { rule = number_of rule.FrameControl; to = to; value = hash }
of_dropped (dropped.Cfi cfi) = record blank { rule = number_of rule.FrameCfi; value = cfi_told cfi }
of_dropped dropped.Pause = record blank { rule = number_of rule.FramePause }
of_dropped (dropped.Missed octets frames) =
    record blank { rule = number_of rule.FrameMissed; octets = octets; most = frames }

-- where something leaves guest memory, which lies there
abbrev pub in_memory : Bounds → EmReason → EmReason
in_memory b r = record r { base = b.base; memory = b.end - b.base }

-- a transmit descriptor has too many octets
abbrev pub too_long : ℕ → ℕ → ℕ → EmReason
too_long index at octets =
    record blank { rule = number_of rule.TxTooLong; index = index; address = address_told at; octets = octets }

abbrev pub of_refused : WhyRefused → EmReason
of_refused (undone.NoRegister offset) = record blank { rule = number_of rule.NoRegister; address = offset }
of_refused (undone.Range at octets memory) =
    in_memory memory (record blank { rule = number_of rule.WriteRange; address = at; octets = octets })
of_refused (undone.WriteLength octets) = record blank { rule = number_of rule.WriteLength; octets = octets }
of_refused (undone.FrameLength octets) = record blank { rule = number_of rule.FrameLength; octets = octets }
of_refused (undone.RxDescriptor index at memory) =
    in_memory memory (record blank { rule = number_of rule.RxDescriptor; index = index; address = address_told at })
of_refused (undone.RxBuffer index at buffer size frame memory) = in_memory memory (record blank {
  rule = number_of rule.RxBuffer;
  index = index;
  address = address_told at;
  buffer = buffer;
  most = size;
  octets = frame;
})
of_refused (undone.TxDescriptor index at memory) =
    in_memory memory (record blank { rule = number_of rule.TxDescriptor; index = index; address = address_told at })
of_refused (undone.Extended index at) =
    record blank { rule = number_of rule.TxExtended; index = index; address = address_told at }
of_refused (undone.TooLong index at octets) = too_long index at octets
of_refused (undone.Overlong index at octets) = too_long index at octets
of_refused (undone.TxBuffer index at buffer octets memory) = in_memory memory (record blank {
  rule = number_of rule.TxBuffer;
  index = index;
  address = address_told at;
  buffer = buffer;
  octets = octets;
})
of_refused undone.Memory = record blank { rule = number_of rule.Memory }

abbrev pub numbers_of : Option Why → EmReason
numbers_of None = blank
numbers_of (Some (why.RxIdle reason)) = of_rx_idle reason
numbers_of (Some (why.TxIdle reason)) = of_tx_idle reason
numbers_of (Some (why.Dropped reason)) = of_dropped reason
numbers_of (Some (why.Refused reason)) = of_refused reason

-- ---- and its text

abbrev pub reason_told : Option Why → EmReason
reason_told why = record (numbers_of why) { text = line_of (why_text why) }
