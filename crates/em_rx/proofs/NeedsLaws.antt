-- A receive step over one memory, by the step over another one that agrees on what it reads.
use Rattle.std.proofs.Common.{◌≡◌, ◌∙◌, ℕ, ◌+◌, Bool, true, false, nat_lt, ◌||◌, if◌then◌else◌, List, [], ◌∷◌}
use Rattle.std.proofs.Common.{length, take}
use Rattle.std.proofs.Common.{◌≤◌, Result, Ok, Err, refl, sym, ap, subst, arith}
use Rattle.std.proofs.lemmas.List.Elements.{All-head}
use Rattle.em_mem.specs.declared.needs.Needs.{Needs}
use Rattle.em_mem.specs.Memory as memory
use Rattle.em_mem.specs.Memory.{LiesIn, leaves, part, put}
use Rattle.em_mem.specs.OldOctets.{OldOctets}
use Rattle.em_mem.proofs.PutLaws.{length-part, length-put}
use Rattle.std.proofs.lemmas.List.{length-take-le}
use Rattle.em_mem.specs.Needs.{AgreeOn, no_octets, nothing, reads_only, with_octets_of}
use Rattle.em_mem.proofs.NeedsLaws.{agree_first, lies_by_test, two_taken_out}
use Rattle.em_rx.specs.Fifo.{Cells, Fifo, next}
use Rattle.em_rx.specs.Needs.{descriptor, end, needs, piece, taken_into, written_at}
use Rattle.em_rx.specs.Records.{saved_of, step_patch}
use Rattle.em_rx.specs.Undo.{FitsStep, with_both}
use Rattle.em_rx.specs.declared.undo.OldPiece.{OldPiece}
use Rattle.em_rx.specs.Receive.{IsNextPiece, Outcome, after_write, back_of, count_of, delivery, descriptor as octets}
use Rattle.em_rx.specs.Receive.{descriptor_at, is_idle, is_last, is_outside, place_of, receive, wrote}
use Rattle.em_rx.specs.declared.control.RxControl.{RxControl}
use Rattle.em_rx.specs.Fifo.{after_delivery}
use Rattle.em_rx.proofs.ControlLaws.{count_rest, length_back}
use Rattle.em_rx.specs.declared.refusal.RxRefusal.{RxRefusal}
use Rattle.em_rx.specs.declared.refusal.RxRefusal.TheVariants.{DmaRange}
use Rattle.em_rx.specs.declared.step.RxAnswer.TheVariants.{Idle}
use Rattle.em_rx.proofs.StepLaws.{length-next}

module _ (q : RxControl) (base : ℕ) (fifo : Fifo) (m n : List ℕ) where
  -- by whether the step is idle, the descriptor leaves memory, and its buffer does
  abbrev needs_if : List ℕ → Bool → Bool → Bool → Needs
  needs_if x idle out short =
      if idle then nothing
      else if out then nothing
      else if short then reads_only (descriptor q)
      else record { reads = descriptor q ∷ no_octets ∷ []; writes = piece q x fifo ∷ end q ∷ [] }

  abbrev receive_if : List ℕ → Bool → Bool → Bool → Result Outcome RxRefusal
  receive_if x idle out short =
      if idle then Ok (record { answer = Idle; memory = x; fifo = fifo })
      else if out then Err DmaRange
      else if short then Err DmaRange
      else Ok (delivery q x fifo)

  abbrev is_out : List ℕ → Bool
  is_out x = leaves base x (descriptor_at q) 16

  abbrev buffer_leaves : List ℕ → Bool
  buffer_leaves x = is_outside q base x fifo

  -- the descriptor has the same octets
  abbrev IsSame : Type 0
  IsSame = octets q m ≡ octets q n

  same_leaves : length m ≡ length n → is_out m ≡ is_out n
  same_leaves size = ap (λ (k : ℕ). nat_lt (descriptor_at q) base || nat_lt k (descriptor_at q + 16)) size

  same_test : length m ≡ length n → IsSame → buffer_leaves m ≡ buffer_leaves n
  same_test size same = λ i.
      nat_lt (place_of q (same i)) base || nat_lt (size i) (place_of q (same i) + count_of q (same i) fifo)

  first_if : (idle out s t : Bool) → take 1 (needs_if m idle out s).reads ≡ take 1 (needs_if n idle out t).reads
  first_if true out s t = refl
  first_if false true s t = refl
  first_if false false true true = refl
  first_if false false true false = refl
  first_if false false false true = refl
  first_if false false false false = refl

  -- a descriptor is read, and the memories agree on it
  read_if : (t : Bool) → AgreeOn m n (take 1 (needs_if n false false t).reads) → IsSame
  read_if true agree = All-head (λ r. part m r.at r.len ≡ part n r.at r.len) (descriptor q) [] agree.octets
  read_if false agree = All-head (λ r. part m r.at r.len ≡ part n r.at r.len) (descriptor q) [] agree.octets

  needs_by : (idle out s t : Bool) → (IsSame → s ≡ t)
      → AgreeOn m n (take 1 (needs_if n idle out t).reads) → needs_if m idle out s ≡ needs_if n idle out t
  needs_by true out s t test agree = refl
  needs_by false true s t test agree = refl
  needs_by false false s t test agree =
      let same = read_if t agree in
      λ i. if test same i then reads_only (descriptor q)
      else record {
        reads = descriptor q ∷ no_octets ∷ [];
        writes = record { at = place_of q (same i); len = count_of q (same i) fifo } ∷ end q ∷ [];
      }

  -- what the step writes is taken out
  written : length m ≡ length n → IsSame → LiesIn base n (descriptor_at q) 16
      → LiesIn base n (place_of q (octets q n)) (count_of q (octets q n) fifo)
      → after_write q m fifo ≡ with_octets_of m (after_write q n fifo) (piece q n fifo ∷ end q ∷ [])
  written size same held_d held_b =
      let d : List ℕ = octets q n in
      let front : List ℕ = next fifo (count_of q d fifo) in
      let back : List ℕ = back_of q d fifo in
      let eight : length back ≡ 8 = length_back q d fifo (length-part n (descriptor_at q) 16 held_d.to) in
      ap
      (
      λ (x : List ℕ).
      put (put m (place_of q x) (next fifo (count_of q x fifo))) (descriptor_at q + 8) (back_of q x fifo)
      )
      same
      ∙ sym (two_taken_out m n (place_of q d) front (descriptor_at q + 8) back (count_of q d fifo) size
      (length-next fifo (count_of q d fifo) (count_rest q d fifo)) held_b.to (omega (arith, held_d.to, eight)))
      ∙ ap (λ (k : ℕ). with_octets_of m (after_write q n fifo)
      (piece q n fifo ∷ record { at = descriptor_at q + 8; len = k } ∷ [])) eight

  -- a delivery by the descriptor's octets
  abbrev told : List ℕ → List ℕ → Outcome
  told d x = record {
    answer = wrote q.setup (is_last q d fifo);
    memory = x;
    fifo = after_delivery fifo (count_of q d fifo);
  }

  step_by : (idle out s t : Bool) → length m ≡ length n → (IsSame → s ≡ t)
      → (out ≡ false → LiesIn base n (descriptor_at q) 16)
      → (t ≡ false → LiesIn base n (place_of q (octets q n)) (count_of q (octets q n) fifo))
      → (idle ≡ false → out ≡ false → IsSame)
      → receive_if m idle out s ≡ taken_into m (needs_if n idle out t).writes (receive_if n idle out t)
  step_by true out s t size test held_d held_b same = refl
  step_by false true s t size test held_d held_b same = refl
  step_by false false s true size test held_d held_b same =
      ap (λ (b : Bool). receive_if m false false b) (test (same refl refl))
  step_by false false s false size test held_d held_b same =
      ap (λ (b : Bool). receive_if m false false b) (test (same refl refl))
      ∙ (λ i. Ok (told (same refl refl i) (written size (same refl refl) (held_d refl) (held_b refl) i)))

  same_by : (idle out t : Bool) → AgreeOn m n (take 1 (needs_if n idle out t).reads) → idle ≡ false → out ≡ false
      → IsSame
  same_by idle out t agree not_idle not_out =
      read_if t
      (
      subst (λ b. AgreeOn m n (take 1 (needs_if n false b t).reads)) not_out
      (subst (λ b. AgreeOn m n (take 1 (needs_if n b out t).reads)) not_idle agree)
      )

  pub first_same : length m ≡ length n → take 1 (needs q base m fifo).reads ≡ take 1 (needs q base n fifo).reads
  first_same size =
      ap (λ (b : Bool). take 1 (needs_if m (is_idle q fifo) b (buffer_leaves m)).reads) (same_leaves size)
      ∙ first_if (is_idle q fifo) (is_out n) (buffer_leaves m) (buffer_leaves n)

  pub needs_same : AgreeOn m n (take 1 (needs q base n fifo).reads) → needs q base m fifo ≡ needs q base n fifo
  needs_same agree =
      ap (λ (b : Bool). needs_if m (is_idle q fifo) b (buffer_leaves m)) (same_leaves agree.size)
      ∙ needs_by (is_idle q fifo) (is_out n) (buffer_leaves m) (buffer_leaves n) (same_test agree.size) agree

  pub step_same : AgreeOn m n (needs q base n fifo).reads
      → receive q base m fifo ≡ taken_into m (needs q base n fifo).writes (receive q base n fifo)
  step_same agree =
      ap (λ (b : Bool). receive_if m (is_idle q fifo) b (buffer_leaves m)) (same_leaves agree.size)
      ∙ step_by (is_idle q fifo) (is_out n) (buffer_leaves m) (buffer_leaves n) agree.size (same_test agree.size)
      (lies_by_test base n (descriptor_at q) 16) (lies_by_test base n (place_of q (octets q n)) (count_of q (octets q n) fifo))
      (same_by (is_idle q fifo) (is_out n) (buffer_leaves n) (agree_first m n (needs q base n fifo).reads agree))

-- an idle step writes nothing
pub idle_writes : (q : RxControl) (base : ℕ) (fifo : Fifo) (m : List ℕ) → is_idle q fifo ≡ true
    → no_octets ∷ no_octets ∷ [] ≡ (needs q base m fifo).writes
idle_writes q base fifo m idle = rw idle refl

-- the next piece lies where the needs say
pub piece_writes : (q : RxControl) (base : ℕ) (fifo : Fifo) (m : List ℕ) (p : OldPiece) → IsNextPiece q base m fifo p
    → written_at p ≡ (needs q base m fifo).writes
piece_writes q base fifo m p is =
    let busy : is_idle q fifo ≡ false = is.writes in
    let inside : leaves base m (descriptor_at q) 16 ≡ false = is.inside in
    let fits : is_outside q base m fifo ≡ false = is.fits in
    let told : (needs q base m fifo).writes ≡ piece q m fifo ∷ end q ∷ [] = rw (busy, inside, fits) refl in
    (λ i. record { at = is.buffer i; len = is.len i } ∷ record { at = is.end_at i; len = 8 } ∷ []) ∙ sym told

-- before a step memory was as it is, but in the ranges that its record says
pub piece_before : (r : OldPiece) (c : Cells) (m : memory.Cells) (o : OldOctets) → saved_of r ≤ length o.octets
    → FitsStep c m (step_patch r o)
    → with_octets_of m.octets (with_both m (step_patch r o)).octets (written_at r)
    ≡ (with_both m (step_patch r o)).octets
piece_before r c m o whole fits =
    let first_octets : List ℕ = take r.len o.octets in
    let last_octets : List ℕ = part o.octets r.len 8 in
    let count : length first_octets ≡ r.len = length-take-le r.len o.octets (omega (arith, whole)) in
    let end_count : length last_octets ≡ 8 = length-part o.octets r.len 8 whole in
    let size = length-put m.octets r.buffer first_octets fits.first.held.to in
    let after : List ℕ = put (put m.octets r.buffer first_octets) r.end_at last_octets in
    ap (λ (k : ℕ). with_octets_of m.octets after
    (record { at = r.buffer; len = r.len } ∷ record { at = r.end_at; len = k } ∷ [])) (sym end_count)
    ∙ two_taken_out m.octets m.octets r.buffer first_octets r.end_at last_octets r.len refl count
    (omega (arith, fits.first.held.to, count)) (omega (arith, fits.second.held.to, size))
