-- How frames that arrive and frames that are sent are counted.
use Rattle.std.specs.Prelude.{ℕ, nat_le, nat_lt, Bool, if◌then◌else◌}
use Rattle.em_regs.specs.declared.profile.Profile.{Profile}
use Rattle.em_regs.specs.declared.profile.Profile.TheVariants.{Table, Adapter}
use Rattle.em_regs.specs.Storage.{Registers}
use Rattle.em_latch.specs.Latches.{after_raise}
use Rattle.em_latch.specs.Counter.{after_count}
use Rattle.em_latch.specs.declared.counter.Counter.{Counter}
use Rattle.em_latch.specs.declared.counter.Counter.TheVariants.{Mpc, Prc64, Prc127, Prc255, Prc511, Prc1023, Prc1522}
use Rattle.em_latch.specs.declared.counter.Counter.TheVariants.{Gprc, Bprc, Mprc, Gorc, Rnbc}
use Rattle.em_latch.specs.declared.counter.Counter.TheVariants.{Ptc64, Ptc127, Ptc255, Ptc511, Ptc1023, Ptc1522}
use Rattle.em_latch.specs.declared.counter.Counter.TheVariants.{Gptc, Bptc, Mptc, Gotc}
use Rattle.em_latch.specs.declared.counter.Counter.TheVariants.{Tpr, Tpt, Tor, Tot}
use Rattle.em_address.specs.declared.kind.Kind.{Kind}
use Rattle.em_step.specs.declared.counts.SizeClass.{SizeClass}
use Rattle.em_step.specs.declared.counts.SizeClass.TheVariants.{Upto64, Upto127, Upto255, Upto511, Upto1023, Above1023}
use Rattle.em_address.specs.declared.kind.Kind.TheVariants.{Unicast, Multicast, Broadcast}

-- the class of a frame by its octets on the wire, of which a frame that is counted has at least 64
abbrev pub class_of : ℕ → SizeClass
class_of n =
    if nat_le n 64 then Upto64
    else if nat_le n 127 then Upto127
    else if nat_le n 255 then Upto255
    else if nat_le n 511 then Upto511
    else if nat_le n 1023 then Upto1023
    else Above1023

-- the counter of the frames of a class that are stored
abbrev pub stored_counter : SizeClass → Counter
stored_counter Upto64 = Prc64
stored_counter Upto127 = Prc127
stored_counter Upto255 = Prc255
stored_counter Upto511 = Prc511
stored_counter Upto1023 = Prc1023
stored_counter Above1023 = Prc1522

-- and of those that are sent
abbrev pub sent_counter : SizeClass → Counter
sent_counter Upto64 = Ptc64
sent_counter Upto127 = Ptc127
sent_counter Upto255 = Ptc255
sent_counter Upto511 = Ptc511
sent_counter Upto1023 = Ptc1023
sent_counter Above1023 = Ptc1522

-- ---- all frames, which the second profile counts: one more frame, and n octets more
abbrev pub after_total : Profile → Counter → Counter → ℕ → Registers → Registers
after_total Table frames octets n m = m
after_total Adapter frames octets n m = after_count (after_count m frames 1) octets n

-- TPR and TOR count those that arrive
abbrev pub after_total_received : Profile → ℕ → Registers → Registers
after_total_received profile n m = after_total profile Tpr Tor n m

-- and TPT and TOT those that are sent
abbrev pub after_total_sent : Profile → ℕ → Registers → Registers
after_total_sent profile n m = after_total profile Tpt Tot n m

-- ---- a frame that arrives
-- RNBC counts the frames for which no buffer is there
abbrev pub after_buffer_count : Bool → Registers → Registers
after_buffer_count lacks m = if lacks then after_count m Rnbc 1 else m

-- BPRC counts broadcasts where they are received, and MPRC other group addresses
abbrev pub after_kind_count : Bool → Kind → Registers → Registers
after_kind_count broadcasts Broadcast m = if broadcasts then after_count m Bprc 1 else m
after_kind_count broadcasts Multicast m = after_count m Mprc 1
after_kind_count broadcasts Unicast m = m

-- a frame of n octets on the wire is counted: one more frame, one more of its class, and n octets more
abbrev pub after_size_count : ℕ → Registers → Registers
after_size_count n m = after_count (after_count (after_count m Gprc 1) (stored_counter (class_of n)) 1) Gorc n

-- and its kind
abbrev pub after_frame_count : ℕ → Bool → Kind → Registers → Registers
after_frame_count n broadcasts kind m = after_kind_count broadcasts kind (after_size_count n m)

-- a frame for which the FIFO has no room: MPC counts it, and RXO is raised
abbrev pub after_miss_count : Registers → Registers
after_miss_count m = after_raise (after_count m Mpc 1) 0x40

-- ---- a frame that is sent
-- GPTC counts it, one of its class, and GOTC its octets, where it has at least 64 on the wire
abbrev pub after_sent_sizes : ℕ → Registers → Registers
after_sent_sizes n m =
    if nat_lt n 64 then m
    else after_count (after_count (after_count m Gptc 1) (sent_counter (class_of n)) 1) Gotc n

-- BPTC counts broadcasts, and MPTC other group addresses, of whatever length
abbrev pub after_sent_kind : Kind → Registers → Registers
after_sent_kind Broadcast m = after_count m Bptc 1
after_sent_kind Multicast m = after_count m Mptc 1
after_sent_kind Unicast m = m

-- a frame of n octets on the wire
abbrev pub after_sent_count : Profile → ℕ → Kind → Registers → Registers
after_sent_count profile n kind m = after_sent_kind kind (after_sent_sizes n (after_total_sent profile n m))
