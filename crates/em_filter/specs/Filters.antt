-- What the filters say of a frame.
use Rattle.std.specs.Prelude.{ℕ, ◌+◌, ◌&&◌, ◌||◌, nat_lt, not, Bool, List, length, if◌then◌else◌}
use Rattle.em_regs.specs.declared.profile.Profile.{Profile}
use Rattle.em_regs.specs.Storage.{Registers}
use Rattle.em_filter.specs.declared.outcome.Verdict.{Verdict}
use Rattle.em_filter.specs.declared.outcome.Verdict.TheVariants.{Reject, Undersize, Oversize, Accept}
use Rattle.em_address.specs.Kind.{destination, kind_of, source}
use Rattle.em_filter.specs.Bits.{takes_long}
use Rattle.em_filter.specs.Address.{accepts, has_source}
use Rattle.em_filter.specs.Control.{passes_dpf, passes_pmcf}
use Rattle.em_filter.specs.Vlan.{passes_cfi, passes_vlan}

-- the most octets of a frame on the wire
abbrev pub longest : Profile → Registers → ℕ
longest p s = if takes_long p s then 16384 else 1522

-- the address filter takes the frame: by its destination, and in the second profile also by its source, or as a MAC
-- control frame
abbrev pub passes_address : Profile → Registers → List ℕ → Bool
passes_address p s f = accepts s (destination f) || (has_source p s (source f) || passes_pmcf p s f)

-- the other filters let it pass: the VLAN filter, and in the second profile also those of the CFI and of pause frames
abbrev pub passes_others : Profile → Registers → List ℕ → Bool
passes_others p s f = passes_vlan s f && (passes_cfi p s f && passes_dpf p s f)

-- the first line that holds decides; four octets, the frame check sequence, follow a frame on the wire
unfoldable pub verdict : Profile → Registers → List ℕ → Verdict
verdict p s f =
    if not (passes_address p s f) then Reject
    else if nat_lt (length f + 4) 64 then Undersize
    else if nat_lt (longest p s) (length f + 4) then Oversize
    else if not (passes_others p s f) then Reject
    else Accept (kind_of (destination f))
