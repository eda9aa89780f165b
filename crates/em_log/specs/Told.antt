-- What a line tells, before it is known where the registers lie.
use Rattle.std.specs.Prelude.{ℕ, ◌==◌, nat_lt, Bool, true, if◌then◌else◌, Option, Some, None}
use Rattle.em_log.specs.declared.told.Way.{Way}
use Rattle.em_log.specs.declared.told.Width.{Width}
use Rattle.em_log.specs.declared.told.Width.TheVariants.{One, Two, Four, Eight}
use Rattle.em_log.specs.declared.told.Told.{Told}
use Rattle.em_log.specs.declared.told.Told.TheVariants.{Access, Fault}

abbrev pub octets_of : Width → ℕ
octets_of One = 1
octets_of Two = 2
octets_of Four = 4
octets_of Eight = 8

abbrev pub width_of : ℕ → Option Width
width_of octets =
    if octets == 1 then Some One else
    if octets == 2 then Some Two else
    if octets == 4 then Some Four else
    if octets == 8 then Some Eight else
    None

-- a value has no more octets than that
abbrev pub fits : Width → ℕ → Bool
fits One value = nat_lt value 0x100
fits Two value = nat_lt value 0x1_0000
fits Four value = nat_lt value 0x1_0000_0000
fits Eight value = true

-- what a part of a line completes; a line without it can't be read
abbrev pub with : {A : Type 0} → Option A → (A → Told) → Told
with None complete = Fault
with (Some part) complete = complete part

-- an access of so many octets
abbrev pub access_of : Way → Option ℕ → Option ℕ → Option ℕ → Told
access_of way address value octets =
    with address (λ address. with value (λ value. with octets (λ octets. with (width_of octets) (λ width.
    if fits width value
    then Access (record { way = way; address = address; width = width; value = Some value })
    else Fault))))
