-- MAC control frames, which the second profile filters (IEEE 802.3, clause 31).
use Rattle.std.specs.Prelude.{ℕ, ◌+◌, ◌*◌, ◌==◌, ◌&&◌, not, nat_le, Bool, List, length, slice_index}
use Rattle.em_regs.specs.declared.profile.Profile.{Profile}
use Rattle.em_regs.specs.Storage.{Registers}
use Rattle.em_filter.specs.Bits.{dpf, pmcf}
use Rattle.em_filter.specs.Vlan.{type_of}

-- octets 14 and 15, the higher first
abbrev pub opcode_of : List ℕ → ℕ
opcode_of f = 256 * slice_index f 14 + slice_index f 15

-- the type of a MAC control frame is 8808h
abbrev pub is_control : List ℕ → Bool
is_control f = nat_le 16 (length f) && type_of f == 0x8808

-- it is a pause frame where its opcode is 1
abbrev pub is_pause : List ℕ → Bool
is_pause f = is_control f && opcode_of f == 1

abbrev pub is_other_control : List ℕ → Bool
is_other_control f = is_control f && not (opcode_of f == 1)

-- with PMCF, a MAC control frame that is no pause frame passes whatever its address
unfoldable pub passes_pmcf : Profile → Registers → List ℕ → Bool
passes_pmcf p s f = pmcf p s && is_other_control f

-- with DPF, a pause frame does not pass
unfoldable pub passes_dpf : Profile → Registers → List ℕ → Bool
passes_dpf p s f = not (dpf p s && is_pause f)
