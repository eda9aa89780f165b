-- The numbers of the events that stand.
use Rattle.std.proofs.Common.{◌≡◌, ℕ, ◌+◌, ◌-◌, ◌<◌, ◌≤◌, zero, suc, List, [], ◌∷◌, ◌++◌, length, take, drop, Some}
use Rattle.std.proofs.Common.{cond, refl, sym, ap, ◌∙◌, subst, arith, inl, inr}
use Rattle.std.specs.Prelude.{slice_get}
use Rattle.std.proofs.lemmas.Bool.{cases_lt, le-ltb}
use Rattle.std.proofs.lemmas.List.{take_all}
use Rattle.std.proofs.lemmas.Option.{slice_get_within}
use Rattle.em_named.specs.Names.{name, named, after_line, names}
use Rattle.em_named.specs.Numbers.{above, end_of, line_of, number_of, number_in}
use Rattle.em_named.specs.declared.did.Did.{Did}
use Rattle.em_named.specs.declared.did.Did.TheVariants.{Performed, TookBack}
use Rattle.em_named.specs.declared.did.Name.{Name}
use Rattle.em_named.proofs.NameLaws.{drop-drop, get-drop, get-named, names-take}
use Rattle.em_named.proofs.NumberLaws.{above-line, end-mono, end-next, line-ends, line-within}
use Rattle.em_tape.specs.Tape.{Tape, behind, event_at, event_of}

-- ---- numbers fall

-- each is below this one, and they fall from there on
abbrev Fall : List Did → ℕ → List Name → Type 0
Fall did top [] = Unit {0}
Fall did top (one ∷ older) = (0 < number_of did one) × (number_of did one ≤ top) × Fall did (number_of did one - 1) older

fall-top : (did : List Did) (top higher : ℕ) (standing : List Name) → top ≤ higher → Fall did top standing
    → Fall did higher standing
fall-top did top higher [] le h = tt
fall-top did top higher (one ∷ older) le h = (h.0, omega (arith, h.1), h.2)

fall-drop : (did : List Did) (top n : ℕ) (standing : List Name) → Fall did top standing
    → Fall did top (drop n standing)
fall-drop did top zero standing h = h
fall-drop did top (suc n) [] h = tt
fall-drop did top (suc n) (one ∷ older) h =
    fall-top did (number_of did one - 1) top (drop n older) (omega (arith, h.1))
    (fall-drop did (number_of did one - 1) n older h.2)

-- the number of an event of line k + 1
number-of : (did : List Did) (k n : ℕ) → number_of did (name (suc k) n) ≡ end_of k did + n
number-of did k n = let e : suc k - 1 ≡ k = omega arith in ap (λ j. end_of j did + n) e

-- those of line k + 1 in front
fall-named : (did : List Did) (k n : ℕ) (standing : List Name) → Fall did (end_of k did) standing
    → Fall did (end_of k did + n) (named (suc k) n ++ standing)
fall-named did k zero standing h =
    fall-top did (end_of k did) (end_of k did + 0) standing (omega arith) h
fall-named did k (suc n) standing h =
    let one : number_of did (name (suc k) (suc n)) ≡ end_of k did + suc n = number-of did k (suc n) in
    let top : end_of k did + n ≤ number_of did (name (suc k) (suc n)) - 1 = omega (arith, one) in (
      omega (arith, one),
      omega (arith, one),
      fall-top did (end_of k did + n) _ (named (suc k) n ++ standing) top (fall-named did k n standing h),
    )

fall-after : (did : List Did) (k : ℕ) (d : Did) (standing : List Name) → slice_get did k ≡ Some d
    → Fall did (end_of k did) standing → Fall did (end_of (suc k) did) (after_line (suc k) d standing)
fall-after did k (Performed n) standing is h =
    subst (λ top. Fall did top (named (suc k) n ++ standing)) (sym (end-next k did (Performed n) is))
    (fall-named did k n standing h)
fall-after did k (TookBack n) standing is h =
    let more : end_of (suc k) did ≡ end_of k did + 0 = end-next k did (TookBack n) is in
    fall-top did (end_of k did) (end_of (suc k) did) (drop n standing) (omega (arith, more))
    (fall-drop did (end_of k did) n standing h)

within-some : {X : Type 0} (k : ℕ) (xs : List X) → k < length xs → (x : X) × (slice_get xs k ≡ Some x)
within-some k [] lt = absurd (omega arith)
within-some zero (x ∷ xs) lt = (x, refl)
within-some (suc k) (x ∷ xs) lt = within-some k xs (omega arith)

fall-lines : (k : ℕ) (did : List Did) → k ≤ length did → Fall did (end_of k did) (names (take k did))
fall-lines zero did le = tt
fall-lines (suc k) did le =
    let d = within-some k did (omega arith) in
    subst (Fall did (end_of (suc k) did)) (sym (names-take k did d.0 d.1))
    (fall-after did k d.0 (names (take k did)) d.1 (fall-lines k did (omega arith)))

-- those behind lines, as many as there are
fall-names : (k : ℕ) (did : List Did) → (top : ℕ) × (top ≤ end_of (length did) did) × Fall did top (names (take k did))
fall-names k did = elim (cases_lt (length did) k) [
  | inl past ↦
      let all : take k did ≡ did = take_all k did (omega arith) in
      let whole : take (length did) did ≡ did = take_all (length did) did (omega arith) in (
        end_of (length did) did,
        omega arith,
        subst (λ l. Fall did (end_of (length did) did) (names l)) (whole ∙ sym all)
            (fall-lines (length did) did (omega arith)),
      )
  | inr within ↦ (end_of k did, end-mono k (length did) did within, fall-lines k did within)
]

-- the number of the one so many steps back
abbrev at : List Did → List Name → ℕ → ℕ
at did standing k = number_in did (slice_get standing k)

fall-below : (did : List Did) (top j : ℕ) (standing : List Name) → Fall did top standing → 0 < at did standing j
    → at did standing j + j ≤ top
fall-below did top j [] h some = absurd (omega arith)
fall-below did top zero (one ∷ older) h some = omega (arith, h.1)
fall-below did top (suc j) (one ∷ older) h some =
    omega (arith, h.0, h.1, fall-below did (number_of did one - 1) j older h.2 some)

fall-from : (did : List Did) (top i j : ℕ) (standing : List Name) → Fall did top standing → i ≤ j
    → 0 < at did standing j → at did standing j + (j - i) ≤ at did standing i
fall-from did top i j [] h le some = absurd (omega arith)
fall-from did top zero zero (one ∷ older) h le some = omega arith
fall-from did top zero (suc j) (one ∷ older) h le some =
    omega (arith, h.0, fall-below did (number_of did one - 1) j older h.2 some)
fall-from did top (suc i) zero (one ∷ older) h le some = absurd (omega arith)
fall-from did top (suc i) (suc j) (one ∷ older) h le some =
    omega (arith, fall-from did (number_of did one - 1) i j older h.2 (omega arith) some)

-- further back, the numbers are smaller
pub event_at-falls : (tape : Tape) (i j : ℕ) → i ≤ j → 0 < event_at j tape
    → event_at j tape + (j - i) ≤ event_at i tape
event_at-falls tape i j le some =
    let standing = names (take tape.whole tape.did) in
    let h = fall-names tape.whole tape.did in
    fall-from tape.did h.0 i j (drop tape.back standing) (fall-drop tape.did h.0 tape.back standing h.2) le some

-- ---- behind its own line an event stands

none-above : (n : ℕ) (did : List Did) (top : ℕ) (standing : List Name) → top ≤ n → Fall did top standing
    → above n did standing ≡ 0
none-above n did top [] le h = refl
none-above n did top (one ∷ older) le h =
    let less : number_of did one ≤ n = omega (arith, h.1) in
    ap (λ b. cond b (suc (above n did older)) (above n did older)) (le-ltb n (number_of did one) less)
    ∙ none-above n did (number_of did one - 1) older (omega (arith, less)) h.2

seen-in : (n k : ℕ) (did : List Did) (d : Did) → slice_get did k ≡ Some d → end_of k did < n → n ≤ end_of (suc k) did
    → at did (after_line (suc k) d (names (take k did))) (above n did (after_line (suc k) d (names (take k did)))) ≡ n
seen-in n k did (TookBack m) is before behind =
    absurd (omega (arith, end-next k did (TookBack m) is))
seen-in n k did (Performed m) is before behind =
    let more : end_of (suc k) did ≡ end_of k did + m = end-next k did (Performed m) is in
    let lt : k < length did = slice_get_within did k (Performed m) is in
    let older = names (take k did) in
    let none : above n did older ≡ 0 = none-above n did (end_of k did) older (omega arith) (fall-lines k did (omega arith)) in
    let all = above-line n k m did older in
    let far = (end_of k did + m) - n in
    let count : above n did (named (suc k) m ++ older) ≡ far = omega (arith, all, none, more) in
    let one : end_of k did + (m - far) ≡ n = omega (arith, more) in
    ap (at did (named (suc k) m ++ older)) count
    ∙ ap (number_in did) (get-named (suc k) m far older (omega (arith, more))) ∙ number-of did k (m - far) ∙ one

seen-behind : (n line : ℕ) (did : List Did) → 0 < n → n ≤ end_of (length did) did → line ≡ line_of n did
    → at did (names (take line did)) (above n did (names (take line did))) ≡ n
seen-behind n line did some le is =
    let ends = line-ends n did some le in
    let most = line-within n did in
    let k = line_of n did - 1 in
    let next : suc k ≡ line = omega (arith, ends.first, is) in
    let d = within-some k did (omega (arith, ends.first, most)) in
    let behind : n ≤ end_of (suc k) did = subst (λ j. n ≤ end_of j did) (sym is ∙ sym next) ends.behind in
    subst (λ l. at did (names (take l did)) (above n did (names (take l did))) ≡ n) next
    (subst (λ l. at did l (above n did l) ≡ n) (sym (names-take k did d.0 d.1))
    (seen-in n k did d.0 d.1 ends.before behind))

-- there the event of a number is the one from which no fewer steps back lead to where none has a greater number
pub stands_behind_line : (tape : Tape) (n : ℕ) → 0 < n → n ≤ end_of (length tape.did) tape.did
    → tape.whole ≡ line_of n tape.did → tape.back ≡ 0 → event_at (behind n tape) tape ≡ n
stands_behind_line tape n some le whole back =
    let standing = names (take tape.whole tape.did) in
    subst (λ b. at tape.did (drop b standing) (above n tape.did (drop b standing)) ≡ n) (sym back)
    (seen-behind n tape.whole tape.did some le whole)

-- ---- steps back

-- the newest, so many steps back
pub event_at-back : (tape : Tape) (k : ℕ) → event_of (record tape { back = tape.back + k }) ≡ event_at k tape
event_at-back tape k =
    let standing = names (take tape.whole tape.did) in
    let same : k + 0 ≡ k = omega arith in
    ap (λ l. number_in tape.did (slice_get l 0)) (sym (drop-drop tape.back k standing))
    ∙ ap (number_in tape.did) (get-drop k 0 (drop tape.back standing) ∙ ap (slice_get (drop tape.back standing)) same)

-- none is of a line ahead
pub event_at-most : (tape : Tape) (k : ℕ) → event_at k tape ≤ end_of (length tape.did) tape.did
event_at-most tape k = elim (cases_lt 0 (event_at k tape)) [
  | inl some ↦
      let standing = names (take tape.whole tape.did) in
      let h = fall-names tape.whole tape.did in
      let below = fall-below tape.did h.0 k (drop tape.back standing) (fall-drop tape.did h.0 tape.back standing h.2) some in
      omega (arith, below, h.1)
  | inr none ↦ omega arith
]
