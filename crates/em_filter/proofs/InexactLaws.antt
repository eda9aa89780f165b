-- What goes into whether an exact filter accepts a frame: BAM, and the entries of RAL and RAH.
use Rattle.std.proofs.Common.{◌≡◌, ℕ, ◌+◌, ◌*◌, ◌/◌, ◌%◌, ◌^◌, ◌==◌, ◌&&◌, ◌||◌, not, map, filter}
use Rattle.std.specs.List.{list_any, range_with_len}
use Rattle.em_address.specs.Kind.{is_broadcast, kind_of}
use Rattle.em_filter.specs.Address.{has_source, is_inexact, is_in_table}
use Rattle.em_filter.specs.Bits.{bam, is_second, rah, ral}
use Rattle.em_regs.specs.Setup.{has}
use Rattle.em_regs.specs.Storage.{Registers}
use Rattle.em_regs.specs.declared.profile.Profile.{Profile}

-- two register files have the same of it
pub record AgreeInExact (m n : Registers) : Type 0 where
  pub bam : bam n ≡ bam m
  pub ral : (i : ℕ) → ral n i ≡ ral m i
  pub rah : (i : ℕ) → rah n i ≡ rah m i

pub table_same : (m n : Registers) (a : ℕ) → AgreeInExact m n → is_in_table n a ≡ is_in_table m a
unfolding is_in_table
table_same m n a h = λ i.
    list_any (λ b. b == a)
    (map (λ k. h.ral k i + 2 ^ 32 * (h.rah k i % 2 ^ 16))
    (filter (λ k. has (h.rah k i) (2 ^ 31) && h.rah k i / 2 ^ 16 % 4 == 0) (range_with_len 0 16)))

pub source_same : (p : Profile) (m n : Registers) (a : ℕ) → AgreeInExact m n → has_source p n a ≡ has_source p m a
unfolding has_source
source_same p m n a h = λ i.
    is_second p && list_any (λ k. (has (h.rah k i) (2 ^ 31) && h.rah k i / 2 ^ 16 % 4 == 1)
    && h.ral k i + 2 ^ 32 * (h.rah k i % 2 ^ 16) == a) (range_with_len 0 16)

pub inexact_same : (p : Profile) (m n : Registers) (a b : ℕ) → AgreeInExact m n → is_inexact p n a b ≡ is_inexact p m a b
unfolding is_inexact
inexact_same p m n a b h = λ i.
    is_second p
    && not (table_same m n a h i || (is_broadcast (kind_of a) && h.bam i) || source_same p m n b h i)
