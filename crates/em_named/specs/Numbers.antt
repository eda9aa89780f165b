-- The numbers of events, as they are shown and typed: all that lines performed are counted, those taken back since among
-- them. So a number never stands twice.
use Rattle.std.specs.Prelude.{ℕ, ◌+◌, ◌-◌, nat_le, nat_lt, ◌&&◌, if◌then◌else◌, zero, suc, List, [], ◌∷◌, length}
use Rattle.std.specs.Prelude.{Option, Some, None}
use Rattle.em_named.specs.Names.{name}
use Rattle.em_named.specs.declared.did.Did.{Did}
use Rattle.em_named.specs.declared.did.Did.TheVariants.{Performed, TookBack}
use Rattle.em_named.specs.declared.did.Name.{Name}

-- how many events a line performed
abbrev pub performed_by : Did → ℕ
performed_by (Performed k) = k
performed_by (TookBack k) = 0

-- how many the first so many lines performed
abbrev pub end_of : ℕ → List Did → ℕ
end_of zero did = 0
end_of (suc k) [] = 0
end_of (suc k) (d ∷ did) = performed_by d + end_of k did

-- the line that performed the event of a number: the last before which fewer were performed; 0 for number 0
abbrev pub line_of : ℕ → List Did → ℕ
line_of zero did = 0
line_of (suc n) [] = 0
line_of (suc n) (d ∷ did) = if nat_le (suc n) (performed_by d) then 1 else suc (line_of (suc n - performed_by d) did)

-- the number of an event by its name
abbrev pub number_of : List Did → Name → ℕ
number_of did one = end_of (one.line - 1) did + one.access

-- 0 where there is none
abbrev pub number_in : List Did → Option Name → ℕ
number_in did None = 0
number_in did (Some one) = number_of did one

-- the name of an event by its number, where so many were performed
abbrev pub name_of : ℕ → List Did → Option Name
name_of n did =
    let line = line_of n did in
    if nat_lt 0 n && nat_le n (end_of (length did) did) then Some (name line (n - end_of (line - 1) did)) else None

-- how many of these events have a number above n
abbrev pub above : ℕ → List Did → List Name → ℕ
above n did [] = 0
above n did (one ∷ standing) = if nat_lt n (number_of did one) then suc (above n did standing) else above n did standing
