-- Registers that hold what was written to them, and what they then say of a ring.
use Rattle.std.proofs.Common.{◌≡◌, ◌∙◌, ◌⊎◌, ℕ, ◌*◌, ◌/◌, ◌%◌, ◌<◌, ◌≤◌, List, [], ◌∷◌}
use Rattle.std.proofs.Common.{arith, refl, sym, subst, inl, inr, Bool, true, false, ◌==◌, if◌then◌else◌}
use Rattle.std.proofs.lemmas.Bool.{eqb-false, leb-true}
use Rattle.std.specs.FinMap as map
use Rattle.std.specs.Prelude.{bit_and, nat_le}
use Rattle.std.proofs.lemmas.Nat.{and_mask}
use Rattle.std.proofs.lemmas.Nat.Bits.{and_high_mask}
use Rattle.std.proofs.Math.Nat.{mod-eq_of_lt}
use Rattle.em_regs.specs.declared.reg.Reg.{Reg}
use Rattle.em_regs.specs.RegFile as registers
use Rattle.em_regs.specs.Setup.{value_of, pair}
use Rattle.em_regs.specs.Storage.{Registers}
use Rattle.em_regs.specs.Table.{offset_of}
use Rattle.em_regs.proofs.Entries.{at-insert_other}
use Rattle.em_step.proofs.SetupLaws.{put_other}
use Rattle.em_driver.specs.Others.{IsNoDriverRegister}

-- registers with numbers
abbrev pub Entries : Type 0
Entries = List (Reg × ℕ)

-- each of these registers holds its number
abbrev pub Hold : Registers → Entries → Type 0
Hold m [] = Unit {0}
Hold m (entry ∷ entries) = (value_of m entry.0 ≡ entry.1) × Hold m entries

-- none of them lies at the offset
abbrev pub are_others : ℕ → Entries → Bool
are_others o [] = true
are_others o (entry ∷ entries) = if offset_of entry.0 == o then false else are_others o entries

neither : (a b : Bool) → (if a then false else b) ≡ true → (a ≡ false) × (b ≡ true)
neither true b h = cc
neither false b h = (refl, h)

-- a write of another register
pub hold_other : (m : Registers) (reg : Reg) (v : ℕ) (entries : Entries)
    → are_others (offset_of reg) entries ≡ true → Hold m entries → Hold (registers.put m reg v) entries
hold_other m reg v [] others h = tt
hold_other m reg v (entry ∷ entries) others h =
    let two = neither (offset_of entry.0 == offset_of reg) (are_others (offset_of reg) entries) others in (
      put_other m reg entry.0 v (eqb-false (offset_of entry.0) (offset_of reg) two.0) ∙ h.0,
      hold_other m reg v entries two.1 h.1,
    )

-- each of them lies from one offset to another
abbrev pub lie_in : ℕ → ℕ → Entries → Bool
lie_in low high [] = true
lie_in low high (entry ∷ entries) =
    if nat_le low (offset_of entry.0) then (if nat_le (offset_of entry.0) high then lie_in low high entries else false)
    else false

first_lies : (a b c : Bool) → (if a then (if b then c else false) else false) ≡ true
    → (a ≡ true) × (b ≡ true) × (c ≡ true)
first_lies true true c h = (refl, refl, h)
first_lies true false c h = cc
first_lies false b c h = cc

-- a word that lies elsewhere
hold_insert : (m : Registers) (o v low high : ℕ) (entries : Entries) → lie_in low high entries ≡ true
    → (low ≤ o → high < o) → Hold m entries → Hold (map.insert m o v) entries
hold_insert m o v low high [] lie out h = tt
hold_insert m o v low high (entry ∷ entries) lie out h =
    let at : ℕ = offset_of entry.0 in
    let three = first_lies (nat_le low at) (nat_le at high) (lie_in low high entries) lie in
    let least = leb-true low at three.0 in
    let most = leb-true at high three.1 in (
      at-insert_other m o v at (λ e. omega (arith, e, out, least, most)) ∙ h.0,
      hold_insert m o v low high entries three.2 out h.1,
    )

-- what an event of others leaves of a driver's registers
pub hold_elsewhere : (m n : Registers) (low high : ℕ) (entries : Entries) → lie_in low high entries ≡ true
    → ((o : ℕ) → IsNoDriverRegister o → low ≤ o → high < o)
    → (n ≡ m) ⊎ ((o : ℕ) × (v : ℕ) × IsNoDriverRegister o × (n ≡ map.insert m o v)) → Hold m entries → Hold n entries
hold_elsewhere m n low high entries lie apart (inl same) h = subst (λ x. Hold x entries) (sym same) h
hold_elsewhere m n low high entries lie apart (inr (o, v, out, is)) h =
    subst (λ x. Hold x entries) (sym is) (hold_insert m o v low high entries lie (apart o out) h)

-- ---- what a ring's registers keep of what is written

-- bits 31 to 4 of the low half of a base, which is a multiple of 16
pub base_low : (base : ℕ) → base % 16 ≡ 0 → bit_and (base % 0x1_0000_0000) 0xFFFF_FFF0 ≡ base % 0x1_0000_0000
base_low base even =
    and_high_mask 32 4 (omega arith) (base % 0x1_0000_0000) (omega arith) ∙ omega (arith, even)

-- all bits of its high half
pub base_high : (base : ℕ) → base < 0x1_0000_0000_0000_0000
    → bit_and (base / 0x1_0000_0000) 0xFFFF_FFFF ≡ base / 0x1_0000_0000
base_high base less = and_mask (base / 0x1_0000_0000) 32 ∙ mod-eq_of_lt (omega arith)

-- bits 19 to 7 of a ring's length in octets: its descriptors have 16, and are a multiple of 8
pub ring_length : (count : ℕ) → count % 8 ≡ 0 → count ≤ 4096 → bit_and (16 * count) 0x000F_FF80 ≡ 16 * count
ring_length count eights most = and_high_mask 20 7 (omega arith) (16 * count) (omega arith) ∙ omega (arith, eights)

-- all bits of an index
pub index : (i : ℕ) → i < 65_536 → bit_and i 0xFFFF ≡ i
index i less = and_mask i 16 ∙ mod-eq_of_lt less

-- the base again
pub base_is : (m : Registers) (high low : Reg) (base : ℕ) → value_of m high ≡ base / 0x1_0000_0000
    → value_of m low ≡ base % 0x1_0000_0000 → pair m high low ≡ base
base_is m high low base h l = omega (arith, h, l)
