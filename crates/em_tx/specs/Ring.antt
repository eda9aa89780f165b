-- The ring of transmit descriptors, by its set-up.
use Rattle.std.specs.Prelude.{ℕ, ◌+◌, ◌==◌, Bool, List, if◌then◌else◌}
use Rattle.em_regs.specs.declared.setup.TxSetup.{TxSetup}
use Rattle.em_regs.specs.Ring as ring
use Rattle.em_regs.specs.Ring.{tx_ring}
use Rattle.em_tx.specs.Descriptor.{rs}

-- no descriptor is the adapter's
abbrev pub is_idle : TxSetup → Bool
is_idle q = ring.is_idle (tx_ring q)

-- where the first one that is lies
abbrev pub place : TxSetup → ℕ
place q = ring.descriptor_at (tx_ring q) q.head

-- the descriptor behind it
abbrev pub next : TxSetup → ℕ
next q = ring.next (tx_ring q)

-- TXDW (bit 0) with RS, and TXQE (bit 1) where no further descriptor is the adapter's
abbrev pub causes : TxSetup → List ℕ → ℕ
causes q d = (if rs d then 1 else 0) + (if next q == q.tail then 2 else 0)
