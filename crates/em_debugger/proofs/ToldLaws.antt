-- What is kept of answers.
use Rattle.std.proofs.Common.{◌≡◌, ◌⊎◌, ◌∙◌, ◌+◌, ◌<◌, ◌≤◌, ℕ, zero, suc, List, [], ◌∷◌, ◌++◌, length, take, drop, get_or, min, refl, sym, ap, arith, inl, inr}
use Rattle.std.proofs.lemmas.Bool.{cases_lt, le-ltb, lt-ltb}
use Rattle.std.proofs.lemmas.List.{drop-map, map-append, take-map, take_min}
use Rattle.std.specs.Prelude.{◌≢◌, insert, remove, slice_get, slice_set, unwrap_or}
use Rattle.smallvec.specs.SmallVec.{SmallVec}
use Rattle.em_tape.specs.Texts.{texts}
use Rattle.em_text.specs.Lines.{lines_of}
use Rattle.em_debugger.specs.Expected.{Expects}
use Rattle.em_debugger.specs.Told.{Puts, Stay, closed, kept_of, moved, told_of}

-- an answer of no octets behind the last changes nothing
found-pushed : (xs : List (SmallVec ℕ)) (k : ℕ) (v : SmallVec ℕ) → v.items ≡ []
    → unwrap_or (slice_get (texts (xs ++ v ∷ [])) k) [] ≡ unwrap_or (slice_get (texts xs) k) []
found-pushed [] zero v e = e
found-pushed [] (suc k) v e = refl
found-pushed (x ∷ xs) zero v e = refl
found-pushed (x ∷ xs) (suc k) v e = found-pushed xs k v e

pub told-pushed : (n : ℕ) (xs : List (SmallVec ℕ)) (v : SmallVec ℕ) → v.items ≡ []
    → told_of n (texts (xs ++ v ∷ [])) ≡ told_of n (texts xs)
told-pushed zero xs v e = refl
told-pushed (suc k) xs v e = found-pushed xs k v e

-- of an answer of no octets nothing is kept
pub kept-none : (text : List ℕ) → length text ≡ 0 → text ≡ kept_of text
unfolding lines_of
kept-none [] e = refl
kept-none (x ∷ xs) e = absurd (omega arith)

pub kept-line : (text line : List ℕ) (rest : List (List ℕ)) (n : ℕ) → lines_of text ≡ line ∷ rest
    → n ≡ min (length line) 64 → take n line ≡ kept_of text
kept-line text line rest n e few =
    let turned : n ≡ min 64 (length line) = omega (arith, few) in
    ap (λ k. take k line) turned ∙ take_min 64 line ∙ sym (ap (λ ls. take 64 (get_or ls 0 [])) e)

-- one answer is put in the place of another
set-same : (xs : List (SmallVec ℕ)) (i : ℕ) (v : SmallVec ℕ) → i < length xs
    → unwrap_or (slice_get (texts (slice_set xs i v)) i) [] ≡ v.items
set-same [] i v lt = absurd (omega arith)
set-same (x ∷ xs) zero v lt = refl
set-same (x ∷ xs) (suc i) v lt = set-same xs i v (omega arith)

set-other : (xs : List (SmallVec ℕ)) (k i : ℕ) (v : SmallVec ℕ) → k ≢ i
    → unwrap_or (slice_get (texts (slice_set xs i v)) k) [] ≡ unwrap_or (slice_get (texts xs) k) []
set-other [] k i v ne = refl
set-other (x ∷ xs) zero zero v ne = absurd (ne refl)
set-other (x ∷ xs) zero (suc i) v ne = refl
set-other (x ∷ xs) (suc k) zero v ne = refl
set-other (x ∷ xs) (suc k) (suc i) v ne = set-other xs k i v (λ e. ne (ap suc e))

pub told-set : (xs : List (SmallVec ℕ)) (n i : ℕ) (v : SmallVec ℕ) → n ≡ suc i → i < length xs
    → told_of n (texts (slice_set xs i v)) ≡ v.items
told-set xs n i v e lt = rw e (set-same xs i v lt)

pub told-others : (xs : List (SmallVec ℕ)) (k n i : ℕ) (v : SmallVec ℕ) → n ≡ suc i → k ≢ n
    → told_of k (texts (slice_set xs i v)) ≡ told_of k (texts xs)
told-others xs zero n i v e ne = refl
told-others xs (suc k) n i v e ne = set-other xs k i v (λ same. ne (ap suc same ∙ sym e))

-- a text is put into the place that was made for it
pub puts_set : (items new : List (SmallVec ℕ)) (old : List (List ℕ)) (number before : ℕ) (kept : SmallVec ℕ)
    (text : List ℕ) → Stay old (texts items) → number ≡ before + 1 → number ≤ length items → kept.items ≡ text
    → new ≡ slice_set items before kept → Puts number text old (texts new)
puts_set items new old number before kept text stay is within holds e =
    let one : number ≡ suc before = omega (arith, is) in
    let there : before < length items = omega (arith, is, within) in
    record {
      this = ap (λ l. told_of number (texts l)) e ∙ told-set items number before kept one there ∙ holds;
      others = λ n ne. ap (λ l. told_of n (texts l)) e ∙ told-others items n number before kept one ne ∙ stay n;
    }

-- what a line expects, that expects something, and that expects nothing
pub expects_put : (number : ℕ) (answer : List ℕ) (old new : List (List ℕ)) → length answer ≢ 0
    → Puts number answer old new → Expects number answer old new
expects_put number [] old new some puts = absurd (some refl)
expects_put number (octet ∷ octets) old new some puts = puts

pub expects_none : (number : ℕ) (answer : List ℕ) (old : List (List ℕ)) → length answer ≡ 0
    → Expects number answer old old
expects_none number [] old none = refl
expects_none number (octet ∷ octets) old none = absurd (omega arith)

-- ---- a way that is made for a line, and taken back

-- a text that is put among others, and taken away again
remove-insert : (before : ℕ) (held : List (List ℕ)) (text : List ℕ) → before ≤ length held
    → remove (insert held before text) before ≡ held
remove-insert zero held text le = refl
remove-insert (suc k) [] text le = absurd (omega arith)
remove-insert (suc k) (x ∷ xs) text le = ap (λ l. x ∷ l) (remove-insert k xs text (omega arith))

insert-within : (before : ℕ) (held : List (List ℕ)) (text : List ℕ) → before ≤ length held
    → before < length (insert held before text)
insert-within zero held text le = omega arith
insert-within (suc k) [] text le = absurd (omega arith)
insert-within (suc k) (x ∷ xs) text le =
    let within = insert-within k xs text (omega arith) in omega arith

closed-moved-by : (lines : ℕ) (held : List (List ℕ)) → (lines < length held) ⊎ (length held ≤ lines)
    → closed lines (moved lines held) ≡ held
closed-moved-by lines held (inl lt) =
    let put = insert held lines [] in
    let goes : moved lines held ≡ put = rw (lt-ltb lines (length held) lt) refl in
    let taken : closed lines put ≡ remove put lines =
    rw (lt-ltb lines (length put) (insert-within lines held [] (omega (arith, lt)))) refl in
    ap (closed lines) goes ∙ taken ∙ remove-insert lines held [] (omega (arith, lt))
closed-moved-by lines held (inr le) =
    let stays : moved lines held ≡ held = rw (le-ltb lines (length held) le) refl in
    ap (closed lines) stays ∙ rw (le-ltb lines (length held) le) refl

pub closed-moved : (lines : ℕ) (held : List (List ℕ)) → closed lines (moved lines held) ≡ held
closed-moved lines held = closed-moved-by lines held (cases_lt lines (length held))

pub texts-remove : (all : List (SmallVec ℕ)) (index : ℕ)
    → texts (remove all index) ≡ remove (texts all) index
texts-remove all index =
    map-append (λ (v : SmallVec ℕ). v.items) (take index all) (drop (suc index) all)
    ∙ ap (λ l. l ++ texts (drop (suc index) all)) (sym (take-map (λ (v : SmallVec ℕ). v.items) index all))
    ∙ ap (λ l. take index (texts all) ++ l) (sym (drop-map (λ (v : SmallVec ℕ). v.items) (suc index) all))
