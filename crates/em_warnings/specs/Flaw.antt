-- What a descriptor can have against it that the driver gives to the adapter.
use Rattle.std.specs.Prelude.{ℕ, ◌==◌, Bool, List, slice_index}
use Rattle.std.specs.List.{list_all}
use Rattle.em_regs.specs.Setup.{has}
use Rattle.em_warnings.specs.declared.flaw.Flaw.{Flaw}
use Rattle.em_warnings.specs.declared.flaw.Flaw.TheVariants.{Unwritten, StatusLeft, SentBefore}

-- nobody wrote it
abbrev pub are_zeros : List ℕ → Bool
are_zeros octets = list_all (λ octet. octet == 0) octets

-- its octets have it: all are 0, or DD, bit 0 of the status (octet 12), is set
abbrev pub is_in : Flaw → List ℕ → Bool
is_in Unwritten octets = are_zeros octets
is_in StatusLeft octets = has (slice_index octets 12) 0x1
is_in SentBefore octets = has (slice_index octets 12) 0x1
