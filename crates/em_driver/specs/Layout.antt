-- Where a driver keeps its descriptors and buffers in the guest's memory.
use Rattle.std.specs.Prelude.{◌≡◌, ◌⊎◌, ℕ, ◌+◌, ◌*◌, ◌%◌, ◌≤◌, refl}
use Rattle.std.specs.Coded.{Coded, code_by, coded×, coded_ℕ}
use Rattle.em_driver.specs.declared.layout.Layout.{Layout}
use Rattle.em_driver.specs.declared.layout.Side.{Side}

-- ---- one side: a ring of descriptors of 16 octets, and for each of them a buffer of 2,048
abbrev pub rx : Layout → Side
rx l = record { ring = l.rx_ring; count = l.rx_count; buffers = l.rx_buffers }

abbrev pub tx : Layout → Side
tx l = record { ring = l.tx_ring; count = l.tx_count; buffers = l.tx_buffers }

-- where descriptor i lies, and where its buffer does
abbrev pub descriptor : Side → ℕ → ℕ
descriptor side i = side.ring + 16 * i

abbrev pub buffer : Side → ℕ → ℕ
buffer side i = side.buffers + 2048 * i

-- how many octets the ring has, and how many the buffers have together
abbrev pub ring_octets : Side → ℕ
ring_octets side = 16 * side.count

abbrev pub buffer_octets : Side → ℕ
buffer_octets side = 2048 * side.count

-- a ring has 8 to 4,096 descriptors, a multiple of 8
pub record IsCount (count : ℕ) : Type 0 where
  pub eights : count % 8 ≡ 0
  pub least : 8 ≤ count
  pub most : count ≤ 4096

-- both regions are inside a memory that begins at a base, and ends there
pub record IsInside (base end : ℕ) (side : Side) : Type 0 where
  pub ring_from : base ≤ side.ring
  pub ring : side.ring + ring_octets side ≤ end
  pub buffers_from : base ≤ side.buffers
  pub buffers : side.buffers + buffer_octets side ≤ end

-- so many octets from one address on, and so many from another: none is of both
abbrev pub Apart : ℕ → ℕ → ℕ → ℕ → Type 0
Apart a m b n = (a + m ≤ b) ⊎ (b + n ≤ a)

-- a driver can use it in such a memory
pub record IsGoodSide (base end : ℕ) (side : Side) : Type 0 where
  pub count : IsCount side.count
  pub aligned : side.ring % 16 ≡ 0
  pub inside : IsInside base end side
  pub apart : Apart side.ring (ring_octets side) side.buffers (buffer_octets side)

-- what a driver needs to count its places: it is inside some memory whose end is a 64-bit number
pub record IsPlacedSide (side : Side) : Type 0 where
  pub count : IsCount side.count
  pub inside : IsInside 0 0xFFFF_FFFF_FFFF_FFFF side

-- ---- both sides
-- no region of one side has an octet in common with one of the other
pub record AreDisjoint (a b : Side) : Type 0 where
  pub rings : Apart a.ring (ring_octets a) b.ring (ring_octets b)
  pub buffers : Apart a.buffers (buffer_octets a) b.buffers (buffer_octets b)
  pub first_ring : Apart a.ring (ring_octets a) b.buffers (buffer_octets b)
  pub second_ring : Apart b.ring (ring_octets b) a.buffers (buffer_octets a)

-- a driver can use it in a memory that begins at a base, and ends there
pub record IsGoodLayout (base end : ℕ) (l : Layout) : Type 0 where
  pub receive : IsGoodSide base end (rx l)
  pub transmit : IsGoodSide base end (tx l)
  pub disjoint : AreDisjoint (rx l) (tx l)

pub record IsPlaced (l : Layout) : Type 0 where
  pub receive : IsPlacedSide (rx l)
  pub transmit : IsPlacedSide (tx l)

-- ---- as it is kept
abbrev pub layout_code : Coded Layout
layout_code =
    code_by
    (ℕ × (ℕ × (ℕ × (ℕ × (ℕ × ℕ)))))
    (coded× coded_ℕ (coded× coded_ℕ (coded× coded_ℕ (coded× coded_ℕ (coded× coded_ℕ coded_ℕ)))))
    (λ l. (l.rx_ring, (l.rx_count, (l.rx_buffers, (l.tx_ring, (l.tx_count, l.tx_buffers))))))
    (λ p. record {
      rx_ring = p.0;
      rx_count = p.1.0;
      rx_buffers = p.1.1.0;
      tx_ring = p.1.1.1.0;
      tx_count = p.1.1.1.1.0;
      tx_buffers = p.1.1.1.1.1;
    })
    (λ _. refl)
