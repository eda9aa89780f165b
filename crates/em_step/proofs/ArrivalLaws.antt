-- What is known of a frame that the filters accept, and of one as it is stored.
use Rattle.std.proofs.Common.{◌≡◌, ℕ, ◌+◌, ◌-◌, ◌≤◌, Bool, true, false, List, length}
use Rattle.std.proofs.Common.{arith, refl, sym, ap, ◌∙◌, length-append, length-drop}
use Rattle.std.specs.Prelude.{if◌then◌else◌, nat_lt, not}
use Rattle.std.proofs.lemmas.List.{length-take}
use Rattle.std.proofs.lemmas.Bool.{ltb-false}
use Rattle.em_regs.specs.Storage.{Registers}
use Rattle.em_address.specs.declared.kind.Kind.{Kind}
use Rattle.em_filter.specs.declared.outcome.Verdict.TheVariants.{Reject, Undersize, Oversize, Accept}
use Rattle.em_filter.specs.Bits.{takes_long}
use Rattle.em_filter.specs.Filters.{longest, passes_address, passes_others, verdict}
use Rattle.em_regs.specs.declared.profile.Profile.{Profile}
use Rattle.em_crc.specs.Crc.{crc32, sequence}
use Rattle.em_rx.specs.Frame.{len_of, stored_frame}
use Rattle.em_filter.specs.Vlan.{tagged}
use Rattle.em_step.specs.Arrival.{keeps_sequence, kept_frame, with_sequence}
use Rattle.em_step.specs.State.{State}

-- an accepted frame is neither too short nor too long
sizes : (acc short long vlan : Bool) (k kind : Kind) →
    (if not acc then Reject
    else if short then Undersize
    else if long then Oversize
    else if not vlan then Reject
    else Accept k) ≡ Accept kind → (short ≡ false) × (long ≡ false)
sizes false short long vlan k kind is = cc
sizes true true long vlan k kind is = cc
sizes true false true vlan k kind is = cc
sizes true false false vlan k kind is = (refl, refl)

longest_most : (b : Bool) → (if b then 16384 else 1522) ≤ 16384
longest_most true = omega arith
longest_most false = omega arith

pub accepted_sizes : (p : Profile) (s : Registers) (f : List ℕ) (kind : Kind) → verdict p s f ≡ Accept kind →
    (60 ≤ length f) × (length f ≤ 16_380)
unfolding verdict
accepted_sizes p s f kind is =
    let short : Bool = nat_lt (length f + 4) 64 in
    let long : Bool = nat_lt (longest p s) (length f + 4) in
    let known : (short ≡ false) × (long ≡ false) =
    sizes (passes_address p s f) short long (passes_others p s f) _ kind is in
    let least : 64 ≤ length f + 4 = ltb-false _ _ known.0 in
    let few : length f + 4 ≤ longest p s = ltb-false _ _ known.1 in
    (omega (arith, least), omega (arith, few, longest_most (takes_long p s)))

-- a tagged frame is stored without four octets
pub stored_len : (f : List ℕ) (t : Bool) → 16 ≤ length f →
    len_of (stored_frame f t) ≡ length f - (if t then 4 else 0)
stored_len f false h = omega arith
stored_len f true h = grind (arith, refl, length-append, length-take, length-drop)

pub stored_most : (f : List ℕ) (t : Bool) → len_of (stored_frame f t) ≤ length f
stored_most f false = omega arith
stored_most f true = grind (arith, refl, length-append, length-take, length-drop)

-- a frame with its check sequence has four octets more
pub sequence_len : (k : Bool) (f : List ℕ) → length (with_sequence k f) ≡ length f + (if k then 4 else 0)
sequence_len false f = omega arith
sequence_len true f = length-append f (sequence (crc32 f))

-- so many octets are stored of a frame
pub kept_len : (k t : Bool) (f : List ℕ) → (t ≡ true → 16 ≤ length f)
    → len_of (stored_frame (with_sequence k f) t) ≡ length f + (if k then 4 else 0) - (if t then 4 else 0)
kept_len k false f long = omega (arith, sequence_len k f)
kept_len k true f long =
    stored_len (with_sequence k f) true (omega (arith, long refl, sequence_len k f))
    ∙ ap (λ (n : ℕ). n - 4) (sequence_len k f)

-- the same of a frame that is stored, by what is known of it
pub stored_by : (s : State) (f : List ℕ) (n : ℕ) (b : Bool) → (tagged s.registers f ≡ true → 16 ≤ length f)
    → n ≡ (if keeps_sequence s then 4 else 0) → b ≡ tagged s.registers f
    → length f + n - (if b then 4 else 0) ≡ len_of (kept_frame s f)
stored_by s f n b long more is =
    ap (λ (k : ℕ). length f + k - (if b then 4 else 0)) more
    ∙ ap (λ (t : Bool). length f + (if keeps_sequence s then 4 else 0) - (if t then 4 else 0)) is
    ∙ sym (kept_len (keeps_sequence s) (tagged s.registers f) f long)

four_most : (k : Bool) → (if k then 4 else 0) ≤ 4
four_most true = omega arith
four_most false = omega arith

pub kept_most : (k t : Bool) (f : List ℕ) → len_of (stored_frame (with_sequence k f) t) ≤ length f + 4
kept_most k t f = omega (arith, stored_most (with_sequence k f) t, sequence_len k f, four_most k)
