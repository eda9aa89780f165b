-- Frames with a VLAN tag, and the filter of their identifiers.
use Rattle.std.specs.Prelude.{ℕ, ◌+◌, ◌*◌, ◌/◌, ◌%◌, ◌^◌, ◌==◌, ◌&&◌, not, nat_le, Bool, true, false, List, length, slice_index}
use Rattle.em_regs.specs.declared.profile.Profile.{Profile}
use Rattle.em_regs.specs.Storage.{Registers}
use Rattle.em_filter.specs.Bits.{cfi, cfien, vfe, vme, vet, vfta}
use Rattle.em_regs.specs.Setup.{bit}

-- octets 12 and 13, the higher first
abbrev pub type_of : List ℕ → ℕ
type_of f = 256 * slice_index f 12 + slice_index f 13

-- octets 14 and 15, the higher first
abbrev pub tag_of : List ℕ → ℕ
tag_of f = 256 * slice_index f 14 + slice_index f 15

-- the frame has room for a tag, and its type is VET
abbrev pub carries_tag : Registers → List ℕ → Bool
carries_tag s f = nat_le 16 (length f) && type_of f == vet s

-- the VLAN filter table has the bit of the identifier, the tag's low 12 bits
abbrev pub is_listed : Registers → List ℕ → Bool
is_listed s f = let vid = tag_of f % 4096 in bit (vfta s (vid / 32)) (vid % 32)

-- with VFE, a frame with a tag passes only where the table has it; every other frame passes
unfoldable pub passes_vlan : Registers → List ℕ → Bool
passes_vlan s f = not (vfe s && carries_tag s f && not (is_listed s f))

-- CFI, bit 12 of the tag
abbrev pub cfi_of : List ℕ → Bool
cfi_of f = tag_of f / 2 ^ 12 % 2 == 1

-- two truth values are the same
abbrev pub agree : Bool → Bool → Bool
agree true b = b
agree false b = not b

-- with CFIEN, in the second profile, a frame with a tag passes only where its CFI is RCTL.CFI
unfoldable pub passes_cfi : Profile → Registers → List ℕ → Bool
passes_cfi p s f = not (cfien p s && carries_tag s f && not (agree (cfi s) (cfi_of f)))

-- a frame whose tag is removed where it is stored
unfoldable pub tagged : Registers → List ℕ → Bool
tagged s f = vme s && carries_tag s f
