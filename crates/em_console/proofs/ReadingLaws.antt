-- The first line of what a reader has, from the parts that it gave.
use Rattle.std.proofs.Common.{◌≡◌, ◌≢◌, ℕ, ◌+◌, ◌-◌, ◌<◌, ◌≤◌, true, false, cond, get_or, List, [], ◌∷◌, ◌++◌, All}
use Rattle.std.proofs.Common.{length, take, refl, sym, ap, ◌∙◌, subst, arith, Bool, Option, Some, None, IfSome}
use Rattle.std.proofs.Common.{ne_eqb, eq-eqb, eqb-true}
use Rattle.std.proofs.Common.{append_assoc, append-nil, length-append, length-take-le, get_or-take, ◌⊎◌, inl, inr}
use Rattle.std.specs.Prelude.{◌==◌, ◌&&◌, min, nat_lt}
use Rattle.std.specs.List.{position_or_len}
use Rattle.std.specs.Io.KnownBytes.{Consumes, IsAtEnd, Keeps}
use Rattle.std.specs.Io.{StartsWith}
use Rattle.std.specs.Io.BufRead.{DropsConsumable, take_through, drop_through, strip_last, ends_with_byte, first_line}
use Rattle.std.proofs.BufReadLemmas.{Consumes_shown, take_through-append, drop_through-append}
use Rattle.std.proofs.lemmas.Bool.{lt-ltb, cases_lt}
use Rattle.std.proofs.lemmas.List.{get_or_push, length_push, take_all, take_at, take_min, take_more, take-append-le}
use Rattle.std.proofs.Math.Seq.{take-append-add}
use Rattle.std.proofs.lemmas.List.Elements.{All-get_or, All-from_get_or, All-append}
use Rattle.std.proofs.lemmas.List.Sums.{fails_before_first, passes_at_first}
use Rattle.em_text.specs.Lines.{is_newline}
use Rattle.em_console.specs.declared.reading.AtHand.TheVariants.{Part, Last, Nothing}
use Rattle.em_console.specs.Reading.{TakesLine, TakesPart, TakesAtHand, IsLineOf, most_kept}

-- no octet is a newline
abbrev pub IsPlain : List ℕ → Type 0
IsPlain octets = All (λ octet. octet ≢ 10) octets

-- a list that ends in an octet, and the same without it
pub ends_with-push : (octet : ℕ) (xs : List ℕ) → ends_with_byte octet (xs ++ octet ∷ []) ≡ true
ends_with-push octet xs =
    let len : length (xs ++ octet ∷ []) ≡ length xs + 1 = length_push xs octet in
    let before : length (xs ++ octet ∷ []) - 1 ≡ length xs = omega arith in
    let some : nat_lt 0 (length (xs ++ octet ∷ [])) ≡ true = lt-ltb 0 (length (xs ++ octet ∷ [])) (omega arith) in
    let item : get_or (xs ++ octet ∷ []) (length (xs ++ octet ∷ []) - 1) 0 ≡ octet =
    get_or_push xs octet 0 _ (sym before) in
    let last : (get_or (xs ++ octet ∷ []) (length (xs ++ octet ∷ []) - 1) 0 == octet) ≡ true =
    ap (λ y. y == octet) item ∙ eq-eqb octet octet refl in
    ap (λ b. b && (get_or (xs ++ octet ∷ []) (length (xs ++ octet ∷ []) - 1) 0 == octet)) some ∙ last

strip_last-push : (octet : ℕ) (xs : List ℕ) → strip_last octet (xs ++ octet ∷ []) ≡ xs
strip_last-push octet xs =
    let len : length (xs ++ octet ∷ []) ≡ length xs + 1 = length_push xs octet in
    let before : length (xs ++ octet ∷ []) - 1 ≡ length xs = omega arith in
    ap (λ b. cond b (take (length (xs ++ octet ∷ []) - 1) (xs ++ octet ∷ [])) (xs ++ octet ∷ []))
    (ends_with-push octet xs)
    ∙ take_at xs (octet ∷ []) _ (sym before)

-- what has no newline ends in none
ends_with-plain : (xs : List ℕ) → IsPlain xs → ends_with_byte 10 xs ≡ false
ends_with-plain [] plain = refl
ends_with-plain (x ∷ xs) plain =
    let all = x ∷ xs in
    let some : nat_lt 0 (length all) ≡ true = lt-ltb 0 (length all) (omega arith) in
    let last : (get_or all (length all - 1) 0 == 10) ≡ false =
    ne_eqb _ _ (All-get_or (λ octet. octet ≢ 10) all (length all - 1) 0 (omega arith) plain) in
    ap (λ b. b && (get_or all (length all - 1) 0 == 10)) some ∙ last

-- the first line, by what a read through the newline takes
abbrev line_of : List ℕ → List ℕ
line_of taken = cond (ends_with_byte 10 taken) (strip_last 13 (strip_last 10 taken)) (strip_last 10 taken)

first_line-newline : (front behind : List ℕ) → IsPlain front → first_line (front ++ 10 ∷ behind) ≡ strip_last 13 front
first_line-newline front behind plain =
    let taken = front ++ 10 ∷ [] in
    let cut : take_through 10 (front ++ 10 ∷ behind) ≡ taken = take_through-append 10 front (10 ∷ behind) plain in
    ap line_of cut
    ∙ ap (λ b. cond b (strip_last 13 (strip_last 10 taken)) (strip_last 10 taken)) (ends_with-push 10 front)
    ∙ ap (strip_last 13) (strip_last-push 10 front)

drop_through-newline : (front behind : List ℕ) → IsPlain front → drop_through 10 (front ++ 10 ∷ behind) ≡ behind
drop_through-newline front behind plain = drop_through-append 10 front (10 ∷ behind) plain

-- where no newline stands, the first line is all
take_through-plain : (xs : List ℕ) → IsPlain xs → take_through 10 xs ≡ xs
take_through-plain xs plain =
    ap (take_through 10) (sym (append-nil xs)) ∙ take_through-append 10 xs [] plain ∙ append-nil xs

drop_through-plain : (xs : List ℕ) → IsPlain xs → drop_through 10 xs ≡ []
drop_through-plain xs plain = ap (drop_through 10) (sym (append-nil xs)) ∙ drop_through-append 10 xs [] plain

first_line-plain : (xs : List ℕ) → IsPlain xs → first_line xs ≡ xs
first_line-plain xs plain =
    ap line_of (take_through-plain xs plain)
    ∙ ap (λ b. cond b (strip_last 13 (strip_last 10 xs)) (strip_last 10 xs)) (ends_with-plain xs plain)
    ∙ ap (λ b. cond b (take (length xs - 1) xs) xs) (ends_with-plain xs plain)

-- ---- what is kept of a line

kept-append-by : (whole part : List ℕ) → (most_kept < length whole) ⊎ (length whole ≤ most_kept)
    → take most_kept whole ++ take (most_kept - length (take most_kept whole)) part ≡ take most_kept (whole ++ part)
kept-append-by whole part (inl long) =
    let len : length (take most_kept whole) ≡ most_kept = length-take-le most_kept whole (omega arith) in
    let none : most_kept - length (take most_kept whole) ≡ 0 = omega arith in
    ap (λ n. take most_kept whole ++ take n part) none ∙ append-nil (take most_kept whole)
    ∙ sym (take-append-le most_kept whole part (omega arith))
kept-append-by whole part (inr short) =
    let all : take most_kept whole ≡ whole = take_all most_kept whole short in
    let sum : length whole + (most_kept - length whole) ≡ most_kept = omega arith in
    ap (λ l. l ++ take (most_kept - length l) part) all
    ∙ sym (take-append-add whole part (most_kept - length whole))
    ∙ ap (λ n. take n (whole ++ part)) sum

-- what is kept of a line, and then as much of a part as there is room for: what is kept of both
kept-append : (whole part : List ℕ)
    → take most_kept whole ++ take (most_kept - length (take most_kept whole)) part ≡ take most_kept (whole ++ part)
kept-append whole part = kept-append-by whole part (cases_lt most_kept (length whole))

strip_last-length-by : (octet : ℕ) (xs : List ℕ) (b : Bool) → ends_with_byte octet xs ≡ b
    → (length (strip_last octet xs) ≤ length xs) × (length xs ≤ length (strip_last octet xs) + 1)
strip_last-length-by octet xs true is =
    let cut : strip_last octet xs ≡ take (length xs - 1) xs =
    ap (λ b. cond b (take (length xs - 1) xs) xs) is in
    let len : length (strip_last octet xs) ≡ length xs - 1 =
    ap length cut ∙ length-take-le (length xs - 1) xs (omega arith) in
    (omega arith, omega arith)
strip_last-length-by octet xs false is =
    let same : strip_last octet xs ≡ xs = ap (λ b. cond b (take (length xs - 1) xs) xs) is in
    let len : length (strip_last octet xs) ≡ length xs = ap length same in
    (omega arith, omega arith)

-- without its last octet, or with it, a list is at most one shorter
strip_last-length : (octet : ℕ) (xs : List ℕ) → (length (strip_last octet xs) ≤ length xs)
    × (length xs ≤ length (strip_last octet xs) + 1)
strip_last-length octet xs = strip_last-length-by octet xs (ends_with_byte octet xs) refl

kept-line-by : (whole : List ℕ) → (most_kept < length whole) ⊎ (length whole ≤ most_kept)
    → IsLineOf whole (take most_kept whole)
kept-line-by whole (inl long) =
    let len : length (take most_kept whole) ≡ most_kept = length-take-le most_kept whole (omega arith) in
    (λ short. absurd (omega arith), λ too_long. omega arith)
kept-line-by whole (inr short) =
    let all : take most_kept whole ≡ whole = take_all most_kept whole short in
    let len : length (take most_kept whole) ≡ length whole = ap length all in
    (λ within. all, λ too_long. omega arith)

-- a whole line is kept, or too much of it
kept-line : (whole : List ℕ) → IsLineOf whole (take most_kept whole)
kept-line whole = kept-line-by whole (cases_lt most_kept (length whole))

stripped-line-by : (whole : List ℕ) → (most_kept < length whole) ⊎ (length whole ≤ most_kept)
    → IsLineOf (strip_last 13 whole) (strip_last 13 (take most_kept whole))
stripped-line-by whole (inl long) =
    let len : length (take most_kept whole) ≡ most_kept = length-take-le most_kept whole (omega arith) in
    let stripped = strip_last-length 13 whole in
    let kept = strip_last-length 13 (take most_kept whole) in
    (λ short. absurd (omega (arith, stripped.1)), λ too_long. omega (arith, kept.1))
stripped-line-by whole (inr short) =
    let same : strip_last 13 (take most_kept whole) ≡ strip_last 13 whole =
    ap (strip_last 13) (take_all most_kept whole short) in
    let len : length (strip_last 13 (take most_kept whole)) ≡ length (strip_last 13 whole) = ap length same in
    (λ within. same, λ too_long. omega arith)

-- the same without a carriage return at the end
stripped-line : (whole : List ℕ) → IsLineOf (strip_last 13 whole) (strip_last 13 (take most_kept whole))
stripped-line whole = stripped-line-by whole (cases_lt most_kept (length whole))

-- what was read of a line so far, and what is kept of it
pub record Kept (given now : Option (List ℕ)) (line : List ℕ) : Type 0 where
  pub whole : List ℕ
  pub kept : line ≡ take most_kept whole
  pub plain : IsPlain whole
  pub taken : Consumes given now whole

-- nothing yet
pub Kept-none : (given : Option (List ℕ)) → Consumes given given [] → Kept given given []
Kept-none given taken = record { whole = []; kept = refl; plain = λ k d lt same. absurd (omega arith); taken = taken }

-- one part more
Consumes-append : (given mid rest : Option (List ℕ)) (front part : List ℕ) → Consumes given mid front
    → Consumes mid rest part → Consumes given rest (front ++ part)
Consumes-append None mid rest front part p q = tt
Consumes-append (Some x) None rest front part p q = absurd p
Consumes-append (Some x) (Some y) None front part p q = absurd q
Consumes-append (Some x) (Some y) (Some z) front part p q =
    p ∙ ap (λ l. front ++ l) q ∙ sym (append_assoc front part z)

-- both are kept together
TakesPart-kept : (whole front line part : List ℕ) → front ≡ take most_kept whole → TakesPart front line part
    → line ≡ take most_kept (whole ++ part)
TakesPart-kept whole front line part kept h =
    h.added ∙ ap (λ l. l ++ take (most_kept - length l) part) kept ∙ kept-append whole part

-- and have no newline
TakesPart-plain : (whole front line part : List ℕ) → IsPlain whole → TakesPart front line part
    → IsPlain (whole ++ part)
TakesPart-plain whole front line part plain h = All-append (λ octet. octet ≢ 10) whole part plain h.plain

pub Kept-more : (given mid rest : Option (List ℕ)) (front line : List ℕ) → Kept given mid front
    → TakesAtHand mid rest front line Part → Kept given rest line
Kept-more given mid rest front line h taken =
    let part = taken.0 in
    record {
      whole = h.whole ++ part;
      kept = TakesPart-kept h.whole front line part h.kept taken.1;
      plain = TakesPart-plain h.whole front line part h.plain taken.1;
      taken = Consumes-append given mid rest h.whole part h.taken taken.3;
    }

-- a whole line was read, and the newline
newline-read : (given mid rest : Option (List ℕ)) (whole part : List ℕ) → Consumes given mid whole
    → IsPlain (whole ++ part) → Consumes mid rest (part ++ 10 ∷ [])
    → TakesLine given rest (strip_last 13 (take most_kept (whole ++ part)))
newline-read None mid rest whole part p plain q = record { first = tt; behind = tt }
newline-read (Some x) None rest whole part p plain q = absurd p
newline-read (Some x) (Some y) None whole part p plain q = absurd q
newline-read (Some x) (Some y) (Some z) whole part p plain q =
    let line = whole ++ part in
    let all : x ≡ line ++ 10 ∷ z =
    p ∙ ap (λ l. whole ++ l) (q ∙ append_assoc part (10 ∷ []) z) ∙ sym (append_assoc whole part (10 ∷ z)) in
    let len : length x ≡ length line + length (10 ∷ z) = ap length all ∙ length-append line (10 ∷ z) in
    let first : first_line x ≡ strip_last 13 line = ap first_line all ∙ first_line-newline line z plain in
    record {
      first = (
        omega arith,
        subst (λ l. IsLineOf l (strip_last 13 (take most_kept line))) (sym first) (stripped-line line),
      );
      behind = ap Some (sym (ap (drop_through 10) all ∙ drop_through-newline line z plain));
    }

-- the front of a line was read, then its last part and the newline
pub TakesLine-newline : (given mid rest : Option (List ℕ)) (front line : List ℕ) → Kept given mid front
    → TakesAtHand mid rest front line Last → TakesLine given rest (strip_last 13 line)
TakesLine-newline given mid rest front line h taken =
    subst (λ l. TakesLine given rest (strip_last 13 l)) (sym (TakesPart-kept h.whole front line taken.0 h.kept taken.1))
    (newline-read given mid rest h.whole taken.0 h.taken
    (TakesPart-plain h.whole front line taken.0 h.plain taken.1) taken.2)

-- a whole line was read, and the reader is at its end
end-read : (given mid rest : Option (List ℕ)) (whole : List ℕ) → Consumes given mid whole → IsPlain whole
    → IsAtEnd mid → Keeps mid rest → 0 < length whole → TakesLine given rest (take most_kept whole)
end-read None mid rest whole p plain end kept some = record { first = tt; behind = tt }
end-read (Some x) None rest whole p plain end kept some = absurd p
end-read (Some x) (Some y) None whole p plain end kept some = absurd kept
end-read (Some x) (Some y) (Some z) whole p plain end kept some =
    let all : x ≡ whole = p ∙ ap (λ l. whole ++ l) end ∙ append-nil whole in
    let len : length x ≡ length whole = ap length all in
    let first : first_line x ≡ whole = ap first_line all ∙ first_line-plain whole plain in
    record {
      first = (omega arith, subst (λ l. IsLineOf l (take most_kept whole)) (sym first) (kept-line whole));
      behind = ap Some (kept ∙ end ∙ sym (ap (drop_through 10) all ∙ drop_through-plain whole plain));
    }

-- what is kept of a line is empty where the line is
kept-some : (whole : List ℕ) → 0 < length (take most_kept whole) → 0 < length whole
kept-some [] some = absurd (omega arith)
kept-some (octet ∷ whole) some = omega arith

kept-none-by : (whole : List ℕ) → length (take most_kept whole) ≡ 0
    → (most_kept < length whole) ⊎ (length whole ≤ most_kept) → whole ≡ []
kept-none-by whole none (inl long) =
    let len : length (take most_kept whole) ≡ most_kept = length-take-le most_kept whole (omega arith) in
    absurd (omega arith)
kept-none-by [] none (inr short) = refl
kept-none-by (octet ∷ whole) none (inr short) =
    let all : take most_kept (octet ∷ whole) ≡ octet ∷ whole = take_all most_kept (octet ∷ whole) short in
    let len : length (take most_kept (octet ∷ whole)) ≡ length (octet ∷ whole) = ap length all in
    absurd (omega arith)

kept-none : (whole : List ℕ) → length (take most_kept whole) ≡ 0 → whole ≡ []
kept-none whole none = kept-none-by whole none (cases_lt most_kept (length whole))

-- all of a line was read, and the reader is at its end
pub TakesLine-end : (given mid rest : Option (List ℕ)) (line : List ℕ) → Kept given mid line → IsAtEnd mid
    → Keeps mid rest → 0 < length line → TakesLine given rest line
TakesLine-end given mid rest line h end kept some =
    subst (TakesLine given rest) (sym h.kept)
    (end-read given mid rest h.whole h.taken h.plain end kept
    (kept-some h.whole (subst (λ l. 0 < length l) h.kept some)))

at-end : (given mid rest : Option (List ℕ)) → Consumes given mid [] → IsAtEnd mid → Keeps mid rest
    → IsAtEnd given × Keeps given rest
at-end None mid rest p end kept = (tt, tt)
at-end (Some x) None rest p end kept = absurd p
at-end (Some x) (Some y) None p end kept = absurd kept
at-end (Some x) (Some y) (Some z) p end kept = (p ∙ end, kept ∙ sym p)

-- nothing was read, and the reader is at its end
pub IsAtEnd-end : (given mid rest : Option (List ℕ)) (line : List ℕ) → Kept given mid line → length line ≡ 0
    → IsAtEnd mid → Keeps mid rest → IsAtEnd given × Keeps given rest
IsAtEnd-end given mid rest line h none end kept =
    let empty : h.whole ≡ [] = kept-none h.whole (ap length (sym h.kept) ∙ none) in
    at-end given mid rest (subst (Consumes given mid) empty h.taken) end kept

-- what stands before the first newline has none
pub IsPlain-take : (xs : List ℕ) (end : ℕ) → end ≡ position_or_len is_newline xs → end ≤ length xs
    → IsPlain (take end xs)
IsPlain-take xs end is within =
    All-from_get_or (λ octet. octet ≢ 10) (take end xs) 0 (λ k lt same.
    let before : k < end = omega (arith, length-take-le end xs within) in
    let other : is_newline (get_or xs k 0) ≡ false = fails_before_first is_newline xs k 0 (omega arith) in
    let read : get_or (take end xs) k 0 ≡ get_or xs k 0 = get_or-take end xs k 0 before in
    cc (eq-eqb _ _ (sym read ∙ same), other))

-- and behind it stands the newline
pub take-newline : (xs : List ℕ) (end : ℕ) → end ≡ position_or_len is_newline xs → end < length xs
    → take (end + 1) xs ≡ take end xs ++ 10 ∷ []
take-newline xs end is within =
    let passes : is_newline (get_or xs (position_or_len is_newline xs) 0) ≡ true =
    passes_at_first is_newline xs 0 (omega arith) in
    let newline : get_or xs end 0 ≡ 10 = ap (λ k. get_or xs k 0) is ∙ eqb-true _ _ passes in
    take_more xs end 0 within ∙ ap (λ y. take end xs ++ y ∷ []) newline

-- what a reader had at hand, and showed
pub record Shows (given shown_by : Option (List ℕ)) (buffered : Option ℕ) (shown : List ℕ) : Type 0 where
  pub front : IfSome given (λ octets. StartsWith octets shown)
  pub end : IfSome given (λ octets. length shown ≡ 0 → octets ≡ [])
  pub kept : Keeps given shown_by
  pub fits : IfSome given (λ octets. IfSome buffered (λ most. length shown ≤ most))

-- so many octets of it were consumed
pub Consumes-shown : (given mid rest : Option (List ℕ)) (buffered : Option ℕ) (shown : List ℕ) (count : ℕ)
    → Shows given mid buffered shown → count ≤ length shown → DropsConsumable mid rest buffered count
    → Consumes given rest (take count shown)
Consumes-shown given mid rest buffered shown count h within drops =
    (Consumes_shown given mid rest buffered shown count within h.front h.end h.kept h.fits drops).0

-- a part is added as far as there is room
as-far : (front part : List ℕ) → front ++ take (min (most_kept - length front) (length part)) part
    ≡ front ++ take (most_kept - length front) part
as-far front part = ap (λ l. front ++ l) (take_min (most_kept - length front) part)

-- all of it, which has no newline
pub TakesAtHand-part : (given mid rest : Option (List ℕ)) (buffered : Option ℕ) (shown front line : List ℕ) (end : ℕ)
    → Shows given mid buffered shown → end ≡ position_or_len is_newline shown → end ≡ length shown
    → 0 < length shown → line ≡ front ++ take (min (most_kept - length front) (length (take end shown))) (take end shown)
    → DropsConsumable mid rest buffered end
    → TakesAtHand given rest front line Part
TakesAtHand-part given mid rest buffered shown front line end h is all some added drops =
    let len : length (take end shown) ≡ end = length-take-le end shown (omega arith) in (
      take end shown,
      record { added = added ∙ as-far front (take end shown); plain = IsPlain-take shown end is (omega arith) },
      omega arith,
      Consumes-shown given mid rest buffered shown end h (omega arith) drops,
    )

-- what stands before the first newline, and that
pub TakesAtHand-last : (given mid rest : Option (List ℕ)) (buffered : Option ℕ) (shown front line : List ℕ) (end : ℕ)
    → Shows given mid buffered shown → end ≡ position_or_len is_newline shown → end < length shown
    → line ≡ front ++ take (min (most_kept - length front) (length (take end shown))) (take end shown)
    → DropsConsumable mid rest buffered (end + 1)
    → TakesAtHand given rest front line Last
TakesAtHand-last given mid rest buffered shown front line end h is within added drops = (
  take end shown,
  record { added = added ∙ as-far front (take end shown); plain = IsPlain-take shown end is (omega arith) },
  subst (Consumes given rest) (take-newline shown end is within)
      (Consumes-shown given mid rest buffered shown (end + 1) h (omega arith) drops),
)

-- nothing was shown
pub TakesAtHand-nothing : (given mid : Option (List ℕ)) (buffered : Option ℕ) (shown front : List ℕ)
    → Shows given mid buffered shown → length shown ≡ 0 → TakesAtHand given mid front front Nothing
TakesAtHand-nothing None mid buffered shown front h none = (refl, tt, h.kept)
TakesAtHand-nothing (Some octets) mid buffered shown front h none = (refl, h.end none, h.kept)
