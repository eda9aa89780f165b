-- The address filter: the five cases in which a destination is accepted.
use Rattle.std.specs.Prelude.{
  ℕ,
  ◌+◌,
  ◌*◌,
  ◌/◌,
  ◌%◌,
  ◌^◌,
  ◌==◌,
  ◌&&◌,
  ◌||◌,
  not,
  Bool,
  List,
  [],
  ◌∷◌,
  map,
  filter,
  slice_index,
}
use Rattle.std.specs.List.{list_any, range_with_len}
use Rattle.em_regs.specs.declared.profile.Profile.{Profile}
use Rattle.em_regs.specs.Storage.{Registers}
use Rattle.em_address.specs.declared.kind.Kind.{Kind}
use Rattle.em_address.specs.Kind.{kind_of, is_unicast, is_group, is_broadcast}
use Rattle.em_filter.specs.Bits.{is_second, upe, mpe, bam, mo, mta, ral, rah, av, as_of}
use Rattle.em_regs.specs.Setup.{bit}

-- entry i is valid (AV is 1), and its address is compared with destinations (AS is 00)
abbrev pub is_valid : Registers → ℕ → Bool
is_valid s i = av s i && as_of s i == 0

-- the address of entry i as one number, octet 0 the lowest
abbrev pub entry : Registers → ℕ → ℕ
entry s i = ral s i + 2 ^ 32 * (rah s i % 2 ^ 16)

-- entry i is valid, and is the address
abbrev pub is_entry_at : Registers → ℕ → ℕ → Bool
is_entry_at s a i = is_valid s i && entry s i == a

-- the table: the addresses of the valid ones of the 16 entries
abbrev pub addresses : Registers → List ℕ
addresses s = map (entry s) (filter (is_valid s) (range_with_len 0 16))

-- the first case: the table has the address
unfoldable pub is_in_table : Registers → ℕ → Bool
is_in_table s a = list_any (λ b. b == a) (addresses s)

-- entry i is compared with sources (AS is 01), and is the address
abbrev pub is_source_at : Registers → ℕ → ℕ → Bool
is_source_at s a i = (av s i && as_of s i == 1) && entry s i == a

-- an entry has the source: in the second profile alone
unfoldable pub has_source : Profile → Registers → ℕ → Bool
has_source p s a = is_second p && list_any (is_source_at s a) (range_with_len 0 16)

-- the second: any unicast address, with UPE
abbrev pub passes_upe : Registers → Kind → Bool
passes_upe s kind = is_unicast kind && upe s

-- the third: any group address, with MPE
abbrev pub passes_mpe : Registers → Kind → Bool
passes_mpe s kind = is_group kind && mpe s

-- the fourth: the broadcast address, with BAM
abbrev pub passes_bam : Registers → Kind → Bool
passes_bam s kind = is_broadcast kind && bam s

-- the hash is bits 47:36, 46:35, 45:34 or 43:32 of the address, for MO 0, 1, 2 or 3
abbrev pub hash_of : Registers → ℕ → ℕ
hash_of s a = a / 2 ^ (slice_index (36 ∷ 35 ∷ 34 ∷ 32 ∷ []) (mo s)) % 4096

-- its high bits name the word of the multicast table, its low five bits the bit there
abbrev pub has_hash : Registers → ℕ → Bool
has_hash s hash = bit (mta s (hash / 32)) (hash % 32)

-- the fifth: a group address whose hash the multicast table has
abbrev pub passes_hash : Registers → Kind → ℕ → Bool
passes_hash s kind a = is_group kind && has_hash s (hash_of s a)

-- an exact filter accepts a frame of this destination and this source: the table, BAM, or an entry of sources
abbrev pub is_exact : Profile → Registers → ℕ → ℕ → Bool
is_exact p s to from = is_in_table s to || passes_bam s (kind_of to) || has_source p s from

-- none does, which is told in the second profile alone
unfoldable pub is_inexact : Profile → Registers → ℕ → ℕ → Bool
is_inexact p s to from = is_second p && not (is_exact p s to from)

unfoldable pub accepts : Registers → ℕ → Bool
accepts s a =
    is_in_table s a || passes_upe s (kind_of a) || passes_mpe s (kind_of a) || passes_bam s (kind_of a)
    || passes_hash s (kind_of a) a
