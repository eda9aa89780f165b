-- Registers about which one rule alone asks.
use Rattle.std.proofs.Common.{◌≡◌, ℕ, false, refl}
use Rattle.em_regs.specs.declared.reg.Reg.{Reg}
use Rattle.em_regs.specs.declared.reg.Reg.TheVariants as reg
use Rattle.em_journal.specs.View.{View}
use Rattle.em_warnings.specs.Rules.{alone, bits_dropped, is_of_ring, warnings_of}

pub dropped_alone : (v : View) (r : Reg) (value : ℕ) → is_of_ring r ≡ false
    → alone (bits_dropped r value) ≡ warnings_of v r value
dropped_alone v reg.Rdlen value is = absurd (cc)
dropped_alone v reg.Rdh value is = absurd (cc)
dropped_alone v reg.Tdlen value is = absurd (cc)
dropped_alone v reg.Tdh value is = absurd (cc)
dropped_alone v reg.Rdt value is = absurd (cc)
dropped_alone v reg.Tdt value is = absurd (cc)
dropped_alone v reg.Rctl value is = absurd (cc)
dropped_alone v reg.Tctl value is = absurd (cc)
dropped_alone v reg.Ims value is = absurd (cc)
dropped_alone v _ value is = refl
