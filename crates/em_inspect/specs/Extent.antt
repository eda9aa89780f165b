-- Ranges of addresses.
use Rattle.std.specs.Prelude.{◌+◌, max, min, nat_lt, Bool}
use Rattle.em_inspect.specs.declared.extent.Extent.{Extent}

-- both have an octet in common
abbrev pub overlaps : Extent → Extent → Bool
overlaps a b = nat_lt (max a.at b.at) (min (a.at + a.size) (b.at + b.size))
