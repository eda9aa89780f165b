-- The pieces of one frame, step after step.
use Rattle.std.proofs.Common.{◌≡◌, ℕ, suc, zero, ◌+◌, ◌-◌, ◌*◌, ◌≤◌, ◌<◌, ◌==◌, ◌||◌, not, Bool, true, false, nat_lt}
use Rattle.std.proofs.Common.{nat_le, if◌then◌else◌, List, ◌∷◌, ◌++◌, length, take, drop, refl, sym, ap, subst}
use Rattle.std.proofs.Common.{◌∙◌, inl, inr, arith, length-drop, Result, Ok, Err}
use Rattle.std.proofs.lemmas.List.{length-take-le, drop-append-le, take-append-le, drop-take, take-take, drop-drop}
use Rattle.std.proofs.lemmas.Bool.{cases_eq, cases_lt}
use Rattle.std.proofs.lemmas.Bool.Decides.{nat_tests}
use Rattle.std.proofs.Math.Nat.{mul-le-mul_right}
use Rattle.em_mem.specs.Memory.{EndsIn, leaves, part, put}
use Rattle.em_mem.proofs.PutLaws.{drop_past-put, length-part, length-put, part-put}
use Rattle.em_regs.specs.declared.setup.RxSetup.{RxSetup}
use Rattle.em_rx.specs.declared.control.RxControl.{RxControl}
use Rattle.em_rx.specs.Control.{is_null_at}
use Rattle.em_regs.specs.Ring.{following}
use Rattle.em_mem.specs.Ring.{wrap}
use Rattle.em_rx.specs.Frame.{Frame}
use Rattle.em_rx.specs.Fifo.{Fifo, after_delivery, next}
use Rattle.em_rx.specs.Descriptor.{descriptor_of, marked_done, written_back}
use Rattle.em_rx.specs.Receive.{Outcome, after_write, buffer_at, count_of, delivery, descriptor, is_idle, is_null}
use Rattle.em_rx.specs.Receive.{is_outside, receive}
use Rattle.em_rx.specs.Pieces.{AreApart, Engine, GoesInPieces, IsDelivered, after_step, after_steps, and_then, piece_at}
use Rattle.em_rx.specs.Pieces.{piece_len, place, place_at, with_head, with_outcome}
use Rattle.em_rx.specs.declared.refusal.RxRefusal.{RxRefusal}
use Rattle.em_rx.specs.declared.refusal.RxRefusal.TheVariants.{DmaRange}
use Rattle.em_mem.proofs.NeedsLaws.{stays_in}
use Rattle.em_mem.proofs.RingLaws.{wrap-below}

-- a range apart from what is written stays
part-put_apart : (m : List ℕ) (a n b : ℕ) (d : List ℕ) → EndsIn m b (length d) → AreApart a n b (length d) →
    part (put m b d) a n ≡ part m a n
part-put_apart m a n b d held (inl before) =
    let front : length (take b m) ≡ b = length-take-le b m (omega arith) in
    let rest : List ℕ = d ++ drop (b + length d) m in
    let cut_out : drop a (take b m) ≡ take (b - a) (drop a m)
    = ap (λ (k : ℕ). drop a (take k m)) (omega arith) ∙ drop-take a (b - a) m in
    ap (take n) (drop-append-le a (take b m) rest (omega arith))
    ∙ take-append-le n (drop a (take b m)) rest (omega (arith, length-drop a (take b m)))
    ∙ ap (take n) cut_out
    ∙ take-take n (b - a) (drop a m) (omega arith)
part-put_apart m a n b d held (inr behind) =
    let end : ℕ = b + length d in
    let past : drop a (put m b d) ≡ drop a m
    = ap (λ (k : ℕ). drop k (put m b d)) (omega arith)
    ∙ sym (drop-drop (a - end) end (put m b d))
    ∙ ap (drop (a - end)) (drop_past-put m b d held)
    ∙ drop-drop (a - end) end m
    ∙ ap (λ (k : ℕ). drop k m) (omega arith) in
    ap (take n) past

if_false : {A : Type 0} (b : Bool) (x y : A) → b ≡ false → (if b then x else y) ≡ y
if_false b x y is = ap (λ (c : Bool). if c then x else y) is

if_true : {A : Type 0} (b : Bool) (x y : A) → b ≡ true → (if b then x else y) ≡ x
if_true b x y is = ap (λ (c : Bool). if c then x else y) is

-- the descriptor after the one k places behind RDH
following_place : (n h k : ℕ) → h < n → k < n →
    following n (wrap n (h + k)) ≡ wrap n (h + suc k)
following_place n h k inside less = elim (cases_lt (h + suc k) n) [
  | inl low ↦
      let here : wrap n (h + k) ≡ h + k = grind (arith, nat_tests) in
      let there : wrap n (h + suc k) ≡ h + suc k = grind (arith, nat_tests) in
      let test : nat_lt (wrap n (h + k) + 1) n ≡ true = grind (arith, nat_tests) in
      if_true _ (wrap n (h + k) + 1) 0 test ∙ omega arith
  | inr high ↦
      let there : wrap n (h + suc k) ≡ h + suc k - n = grind (arith, nat_tests) in
      elim (cases_eq (h + suc k) n) [
        | inl last ↦
            let here : wrap n (h + k) ≡ h + k = grind (arith, nat_tests) in
            let test : nat_lt (wrap n (h + k) + 1) n ≡ false = grind (arith, nat_tests) in
            if_false _ (wrap n (h + k) + 1) 0 test ∙ omega arith
        | inr past ↦
            let over : n ≤ h + k = omega arith in
            let here : wrap n (h + k) ≡ h + k - n = grind (arith, nat_tests) in
            let test : nat_lt (wrap n (h + k) + 1) n ≡ true = grind (arith, nat_tests) in
            if_true _ (wrap n (h + k) + 1) 0 test ∙ omega arith
      ]
]

-- a descriptor before RDT is not RDT
not_tail : (n h t k : ℕ) → h < n → t < n → k < wrap n (t + n - h) → wrap n (h + k) ≡ t → ⊥
not_tail n h t k inside below ours is = elim (cases_lt t h) [
  | inl low ↦
      let left : wrap n (t + n - h) ≡ t + n - h = grind (arith, nat_tests) in
      elim (cases_lt (h + k) n) [
        | inl short ↦ let here : wrap n (h + k) ≡ h + k = grind (arith, nat_tests) in omega arith
        | inr past ↦ let here : wrap n (h + k) ≡ h + k - n = grind (arith, nat_tests) in omega arith
      ]
  | inr high ↦
      let left : wrap n (t + n - h) ≡ t + n - h - n = grind (arith, nat_tests) in
      let here : wrap n (h + k) ≡ h + k = grind (arith, nat_tests) in
      omega arith
]

-- none of the reasons to be idle
not_idle : (enabled : Bool) (n h t len : ℕ) → enabled ≡ true → h < n → t < n → (h ≡ t → ⊥) → 0 < len →
    (not enabled || nat_le n h || nat_le n t || h == t || (len == 0)) ≡ false
not_idle enabled n h t len on inside below other some =
    let a : nat_le n h ≡ false = grind (arith, nat_tests) in
    let b : nat_le n t ≡ false = grind (arith, nat_tests) in
    let d : (h == t) ≡ false = grind (arith, nat_tests) in
    let e : (len == 0) ≡ false = grind (arith, nat_tests) in
    λ i. not (on i) || a i || b i || d i || e i

-- memory after some steps: as it was where the steps to come read it, and with the pieces until then
record IsKept (c : RxControl) (m : List ℕ) (frame : Frame) (j k : ℕ) (w : List ℕ) : Type 0 where
  size : length w ≡ length m
  ahead : (i : ℕ) → k ≤ i → i < j → part w (place_at c.setup i) 16 ≡ part m (place_at c.setup i) 16
  done : (i : ℕ) → i < k → IsDelivered c m w frame j i

module _ (c : RxControl) (base : ℕ) (m : List ℕ) (frame : Frame) (frames : List Frame) (j : ℕ)
    (fit : GoesInPieces c base m frame j) where
  abbrev q : RxSetup
  q = c.setup

  abbrev L : ℕ
  L = length frame.octets

  abbrev B : ℕ
  B = q.buffer

  abbrev begun : ℕ → Fifo
  begun k = record { frames = frame ∷ frames; taken = k * B }

  abbrev gone : Fifo
  gone = record { frames = frames; taken = 0 }

  abbrev fifo_at : ℕ → Fifo
  fifo_at k = if nat_lt k j then begun k else gone

  abbrev control_at : ℕ → RxControl
  control_at k = with_head c (place q k)

  abbrev engine_at : ℕ → List ℕ → Engine
  engine_at k w = record { control = control_at k; base = base; memory = w; fifo = fifo_at k }

  abbrev piece : ℕ → List ℕ
  piece k = part frame.octets (k * B) (piece_len q L k)

  abbrev back : ℕ → List ℕ
  back k = written_back (piece_len q L k) (k + 1 == j) c.inexact frame.tag

  abbrev memory_after : ℕ → List ℕ → List ℕ
  memory_after k w = put (put w (piece_at q m k) (piece k)) (place_at q k + 8) (back k)

  few : j < q.count
  few =
      let inside : q.tail + q.count - q.head < q.count + q.count = omega (arith, fit.head, fit.tail) in
      omega (arith, fit.ours, wrap-below q.count (q.tail + q.count - q.head) inside (omega (arith, fit.head)))

  begun_below : (k : ℕ) → k < j → k * B < L
  begun_below k h = omega (arith, fit.least, mul-le-mul_right {m = suc k} {n = j} B h)

  more_below : (k : ℕ) → suc k < j → k * B + B < L
  more_below k h = omega (arith, fit.least, mul-le-mul_right {m = suc (suc k)} {n = j} B h)

  last_within : (k : ℕ) → k < j → j ≤ suc k → L ≤ k * B + B
  last_within k h last = omega (arith, fit.enough, mul-le-mul_right {m = j} {n = suc k} B last)

  last_is : (k : ℕ) → k < j → nat_le (L - k * B) B ≡ (k + 1 == j)
  last_is k h = elim (cases_lt (suc k) j) [
    | inl more ↦
        let l : nat_le (L - k * B) B ≡ false = grind (arith, nat_tests, more_below k more) in
        let r : (k + 1 == j) ≡ false = grind (arith, nat_tests) in
        l ∙ sym r
    | inr last ↦
        let l : nat_le (L - k * B) B ≡ true = grind (arith, nat_tests, last_within k h last) in
        let r : (k + 1 == j) ≡ true = grind (arith, nat_tests) in
        l ∙ sym r
  ]

  fifo_is : (k : ℕ) → k < j → after_delivery (begun k) (piece_len q L k) ≡ fifo_at (suc k)
  fifo_is k h = elim (cases_lt (suc k) j) [
    | inl more ↦
        let len : k * B + piece_len q L k ≡ suc k * B = omega (arith, more_below k more) in
        let here : nat_lt (k * B + piece_len q L k) L ≡ true = grind (arith, nat_tests, more_below k more) in
        let there : nat_lt (suc k) j ≡ true = grind (arith, nat_tests) in
        if_true _ (record (begun k) { taken = k * B + piece_len q L k }) gone here
        ∙ ap (λ (t : ℕ). let f : Fifo = record { frames = frame ∷ frames; taken = t } in f) len
        ∙ sym (if_true _ (begun (suc k)) gone there)
    | inr last ↦
        let len : L ≤ k * B + piece_len q L k = omega (arith, last_within k h last, begun_below k h) in
        let here : nat_lt (k * B + piece_len q L k) L ≡ false = grind (arith, nat_tests) in
        let there : nat_lt (suc k) j ≡ false = grind (arith, nat_tests) in
        if_false _ (record (begun k) { taken = k * B + piece_len q L k }) gone here
        ∙ sym (if_false _ (begun (suc k)) gone there)
  ]

  length-piece : (k : ℕ) → k < j → length (piece k) ≡ piece_len q L k
  length-piece k h = length-part frame.octets (k * B) (piece_len q L k) (omega (arith, begun_below k h))

  module _ (k : ℕ) (w : List ℕ) (h : k < j) (kept : IsKept c m frame j k w) where
    abbrev control : RxControl
    control = control_at k

    abbrev d : List ℕ
    d = descriptor control w

    buffer_is : buffer_at control w ≡ piece_at q m k
    buffer_is = ap (λ (octets : List ℕ). (descriptor_of octets).address) (kept.ahead k (omega arith) h)

    idle_not : is_idle control (begun k) ≡ false
    idle_not =
        not_idle q.enabled q.count (place q k) q.tail (length (frame ∷ frames)) fit.enabled
        (wrap-below q.count (q.head + k) (omega (arith, fit.head, few)) (omega (arith, fit.head)))
        fit.tail
        (not_tail q.count q.head q.tail k fit.head fit.tail (omega (arith, fit.ours)))
        (omega arith)

    descriptor_in : leaves base w (place_at q k) 16 ≡ false
    descriptor_in =
        let held = fit.descriptor_held k h in
        stays_in base w (place_at q k) 16 (record { from = held.from; to = omega (arith, held.to, kept.size) })

    piece_in : leaves base w (buffer_at control w) (piece_len q L k) ≡ false
    piece_in =
        let held = fit.piece_held k h in
        ap (λ (p : ℕ). leaves base w p (piece_len q L k)) buffer_is
        ∙ stays_in base w (piece_at q m k) (piece_len q L k)
        (record { from = held.from; to = omega (arith, held.to, kept.size) })

    -- its descriptor takes octets
    null_not : is_null control d ≡ false
    null_not = ap (is_null_at c.profile) buffer_is ∙ fit.filled k h

    inside : is_outside control base w (begun k) ≡ false
    inside =
        ap
        (
        λ (b : Bool).
        leaves base w (if b then place_at q k else buffer_at control w) (if b then 0 else piece_len q L k)
        )
        null_not
        ∙ piece_in

    receives : receive control base w (begun k) ≡ Ok (delivery control w (begun k))
    receives =
        let out : Result Outcome RxRefusal = Err DmaRange in
        let wrote : Result Outcome RxRefusal = Ok (delivery control w (begun k)) in
        if_false (is_idle control (begun k)) _ _ idle_not
        ∙ if_false (leaves base w (place_at q k) 16) out _ descriptor_in
        ∙ if_false (is_outside control base w (begun k)) out wrote inside

    -- memory after the step by whether its descriptor takes octets, where its buffer lies, and whether the piece is the last
    abbrev written_by : Bool → ℕ → Bool → List ℕ
    written_by null p last =
        let n : ℕ = if null then 0 else piece_len q L k in
        put (put w (if null then place_at q k else p) (next (begun k) n)) (place_at q k + 8)
        (
        if null then marked_done (drop 8 d)
        else written_back n (if null then false else last) c.inexact frame.tag
        )

    memory_is : after_write control w (begun k) ≡ memory_after k w
    memory_is = λ i. written_by (null_not i) (buffer_is i) (last_is k h i)

    moved_on : after_delivery (begun k) (count_of control d (begun k)) ≡ fifo_at (suc k)
    moved_on = ap (λ (b : Bool). after_delivery (begun k) (if b then 0 else piece_len q L k)) null_not ∙ fifo_is k h

    step_is : after_step (engine_at k w) ≡ Ok (engine_at (suc k) (memory_after k w))
    step_is =
        let test : nat_lt k j ≡ true = grind (arith, nat_tests) in
        let here : Engine = record { control = control; base = base; memory = w; fifo = begun k } in
        let there : with_outcome here (delivery control w (begun k)) ≡ engine_at (suc k) (memory_after k w)
        = λ i. record {
          control = with_head c (following_place q.count q.head k fit.head (omega (arith, few)) i);
          base = base;
          memory = memory_is i;
          fifo = moved_on i;
        } in
        ap (λ (f : Fifo). after_step (record { control = control; base = base; memory = w; fifo = f })) (if_true _
        (begun k) gone test)
        ∙ ap (and_then (λ (x : Outcome). let r : Result Engine RxRefusal = Ok (with_outcome here x) in r)) receives
        ∙ ap (λ (x : Engine). let r : Result Engine RxRefusal = Ok x in r) there

    abbrev first : List ℕ
    first = put w (piece_at q m k) (piece k)

    held_piece : EndsIn w (piece_at q m k) (length (piece k))
    held_piece = omega (arith, (fit.piece_held k h).to, kept.size, length-piece k h)

    size_first : length first ≡ length w
    size_first = length-put w (piece_at q m k) (piece k) held_piece

    held_back : EndsIn first (place_at q k + 8) 8
    held_back = omega (arith, (fit.descriptor_held k h).to, kept.size, size_first)

    size_after : length (memory_after k w) ≡ length m
    size_after = length-put first (place_at q k + 8) (back k) held_back ∙ size_first ∙ kept.size

    -- a range apart from the piece and from its descriptor
    stays : (a n : ℕ) → AreApart a n (piece_at q m k) (piece_len q L k) → AreApart a n (place_at q k) 16 →
        part (memory_after k w) a n ≡ part w a n
    stays a n piece_apart descriptor_apart =
        let apart : AreApart a n (place_at q k + 8) 8
        = elim descriptor_apart [ inl before ↦ inl (omega arith) | inr behind ↦ inr (omega arith) ] in
        part-put_apart first a n (place_at q k + 8) (back k) held_back apart
        ∙ part-put_apart w a n (piece_at q m k) (piece k) held_piece
        (subst (AreApart a n (piece_at q m k)) (sym (length-piece k h)) piece_apart)

    turned : (a n b c : ℕ) → AreApart a n b c → AreApart b c a n
    turned a n b c (inl before) = inr before
    turned a n b c (inr behind) = inl behind

    within : (a n b : ℕ) → AreApart a 16 b n → AreApart (a + 8) 8 b n
    within a n b (inl before) = inl (omega arith)
    within a n b (inr behind) = inr (omega arith)

    ahead_after : (i : ℕ) → suc k ≤ i → i < j → part (memory_after k w) (place_at q i) 16 ≡ part m (place_at q i) 16
    ahead_after i past below =
        stays (place_at q i) 16
        (turned (piece_at q m k) (piece_len q L k) (place_at q i) 16 (fit.both k i h below))
        (turned (place_at q k) 16 (place_at q i) 16 (fit.descriptors k i past below))
        ∙ kept.ahead i (omega arith) below

    done_before : (i : ℕ) → i < k → IsDelivered c m (memory_after k w) frame j i
    done_before i less =
        let below : i < j = omega arith in
        record {
          octets =
              stays (piece_at q m i) (piece_len q L i) (fit.pieces i k less h) (fit.both i k below h)
              ∙ (kept.done i less).octets;
          descriptor =
              stays (place_at q i + 8) 8
              (
              within (place_at q i) (piece_len q L k) (piece_at q m k)
              (turned (piece_at q m k) (piece_len q L k) (place_at q i) 16 (fit.both k i h below))
              )
              (within (place_at q i) 16 (place_at q k) (fit.descriptors i k less h))
              ∙ (kept.done i less).descriptor;
        }

    done_here : IsDelivered c m (memory_after k w) frame j k
    done_here =
        let apart : AreApart (piece_at q m k) (piece_len q L k) (place_at q k + 8) 8
        = elim (fit.both k k h h) [ inl before ↦ inl (omega arith) | inr behind ↦ inr (omega arith) ] in
        record {
          octets =
              part-put_apart first (piece_at q m k) (piece_len q L k) (place_at q k + 8) (back k) held_back apart
              ∙ ap (part first (piece_at q m k)) (sym (length-piece k h))
              ∙ part-put w (piece_at q m k) (piece k) held_piece;
          descriptor = part-put first (place_at q k + 8) (back k) held_back;
        }

    done_after : (i : ℕ) → i < suc k → IsDelivered c m (memory_after k w) frame j i
    done_after i less = elim (cases_lt i k) [
      | inl before ↦ done_before i before
      | inr here ↦ subst (IsDelivered c m (memory_after k w) frame j) (omega arith) done_here
    ]

    kept_after : IsKept c m frame j (suc k) (memory_after k w)
    kept_after = record { size = size_after; ahead = ahead_after; done = done_after }

  -- after k steps
  going : (k : ℕ) → k ≤ j →
      (w : List ℕ) × (after_steps k (engine_at 0 m) ≡ Ok (engine_at k w)) × IsKept c m frame j k w
  going zero h = (m, refl, record { size = refl; ahead = λ i past below. refl; done = λ i less. absurd (omega arith) })
  going (suc k) h =
      let before = going k (omega arith) in (
        memory_after k before.0,
        ap (and_then after_step) before.1 ∙ step_is k before.0 (omega arith) before.2,
        kept_after k before.0 (omega arith) before.2,
      )

  some_piece : 0 < j
  some_piece = elim (cases_lt 0 j) [
    | inl some ↦ some
    | inr none ↦ absurd (omega (arith, fit.some, fit.enough, mul-le-mul_right {m = j} {n = 0} B none))
  ]

  start : (fifo : Fifo) → fifo ≡ record { frames = frame ∷ frames; taken = 0 } →
      (let s : Engine = record { control = c; base = base; memory = m; fifo = fifo } in s) ≡ engine_at 0 m
  start fifo is =
      let head : q.head ≡ place q 0 = grind (arith, nat_tests, fit.head) in
      let test : nat_lt 0 j ≡ true = grind (arith, nat_tests, some_piece) in
      let none_taken : 0 ≡ 0 * B = omega arith in
      let begins : fifo ≡ fifo_at 0
      = is
      ∙ ap (λ (taken : ℕ). let f : Fifo = record { frames = frame ∷ frames; taken = taken } in f) none_taken
      ∙ sym (if_true _ (begun 0) gone test) in
      λ i. record { control = with_head c (head i); base = base; memory = m; fifo = begins i }

  -- after as many steps as the frame has pieces
  pub pieces : (fifo : Fifo) → fifo ≡ record { frames = frame ∷ frames; taken = 0 } →
      (t : Engine) × (after_steps j (record { control = c; base = base; memory = m; fifo = fifo }) ≡ Ok t)
      × (t.fifo ≡ record { frames = frames; taken = 0 })
      × ((i : ℕ) → i < j → IsDelivered c m t.memory frame j i)
  pieces fifo is =
      let end = going j (omega arith) in
      let test : nat_lt j j ≡ false = grind (arith, nat_tests) in (
        engine_at j end.0,
        ap (after_steps j) (start fifo is) ∙ end.1,
        if_false _ (begun j) gone test,
        end.2.done,
      )

  -- until then the frame is the oldest one
  pub still_first : (fifo : Fifo) → fifo ≡ record { frames = frame ∷ frames; taken = 0 } → (k : ℕ) → k < j →
      (e : Engine) → after_steps k (record { control = c; base = base; memory = m; fifo = fifo }) ≡ Ok e →
      e.fifo.frames ≡ frame ∷ frames
  still_first fifo is k less e ok =
      let here = going k (omega arith) in
      let test : nat_lt k j ≡ true = grind (arith, nat_tests, less) in
      let there : Ok (engine_at k here.0) ≡ Ok e = sym (ap (after_steps k) (start fifo is) ∙ here.1) ∙ ok in
      let same : engine_at k here.0 ≡ e = cc in
      ap (λ (x : Engine). x.fifo.frames) (sym same) ∙ ap (λ (f : Fifo). f.frames) (if_true _ (begun k) gone test)
