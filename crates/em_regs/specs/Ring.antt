-- A ring of descriptors, as its registers set it up.
use Rattle.std.specs.Prelude.{ℕ, ◌+◌, ◌*◌, ◌==◌, ◌||◌, not, nat_le, nat_lt, Bool, if◌then◌else◌}
use Rattle.em_regs.specs.declared.ring.Ring.{Ring}
use Rattle.em_regs.specs.declared.setup.RxSetup.{RxSetup}
use Rattle.em_regs.specs.declared.setup.TxSetup.{TxSetup}

-- the receive ring
abbrev pub rx_ring : RxSetup → Ring
rx_ring q = record { enabled = q.enabled; base = q.base; count = q.count; head = q.head; tail = q.tail }

-- the transmit ring
abbrev pub tx_ring : TxSetup → Ring
tx_ring q = record { enabled = q.enabled; base = q.base; count = q.count; head = q.head; tail = q.tail }

-- no descriptor is the adapter's: those from the head up to but not the tail are, where both stand in the ring
abbrev pub is_idle : Ring → Bool
is_idle r = not r.enabled || nat_le r.count r.head || nat_le r.count r.tail || r.head == r.tail

-- where descriptor i lies
abbrev pub descriptor_at : Ring → ℕ → ℕ
descriptor_at r i = r.base + 16 * i

-- the descriptor behind descriptor i, in a ring of so many: behind the last comes the first
abbrev pub following : ℕ → ℕ → ℕ
following count i = if nat_lt (i + 1) count then i + 1 else 0

-- the one behind the head
abbrev pub next : Ring → ℕ
next r = following r.count r.head
