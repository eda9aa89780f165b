-- How the oldest frame comes past the filters.
use Rattle.std.proofs.Common.{◌≡◌, ◌<◌, ℕ, false, List, [], ◌∷◌, length, refl, arith}
use Rattle.em_address.specs.Kind.{destination, source}
use Rattle.em_filter.specs.Address.{is_inexact}
use Rattle.em_filter.proofs.InexactLaws.{AgreeInExact, inexact_same}
use Rattle.em_regs.specs.Storage.{Registers}
use Rattle.em_regs.specs.declared.profile.Profile.{Profile}
use Rattle.em_regs.specs.declared.profile.Profile.TheVariants.{Table}
use Rattle.em_rx.specs.Fifo.{Fifo, first}
use Rattle.em_rx.specs.Frame.{Frame}
use Rattle.em_step.specs.Engines.{comes_inexact}

-- in the first profile none comes so
pub exact_in_the_first : (m : Registers) (frames : List Frame) → comes_inexact Table m frames ≡ false
unfolding is_inexact
exact_in_the_first m [] = refl
exact_in_the_first m (frame ∷ frames) = refl

-- where no frame waits none does
pub none_comes : (p : Profile) (m : Registers) (frames : List Frame) → length frames ≡ 0 → comes_inexact p m frames ≡ false
none_comes p m [] none = refl
none_comes p m (frame ∷ frames) none = absurd (omega arith)

first_by : (p : Profile) (m : Registers) (frames : List Frame) (taken : ℕ) → 0 < length frames
    → let fifo : Fifo = record { frames = frames; taken = taken } in
    comes_inexact p m frames ≡ is_inexact p m (destination (first fifo).octets) (source (first fifo).octets)
first_by p m [] taken some = absurd (omega arith)
first_by p m (frame ∷ frames) taken some = refl

-- the oldest frame that waits
pub first_comes : (p : Profile) (m : Registers) (fifo : Fifo) → 0 < length fifo.frames
    → comes_inexact p m fifo.frames ≡ is_inexact p m (destination (first fifo).octets) (source (first fifo).octets)
first_comes p m fifo some = first_by p m fifo.frames fifo.taken some

-- it goes by BAM and the entries of RAL and RAH alone
pub comes_same : (p : Profile) (m n : Registers) (frames : List Frame) → AgreeInExact m n
    → comes_inexact p n frames ≡ comes_inexact p m frames
comes_same p m n [] h = refl
comes_same p m n (frame ∷ frames) h = inexact_same p m n (destination frame.octets) (source frame.octets) h
