-- The numbers of events.
use Rattle.std.proofs.Common.{◌≡◌, ◌⊎◌, ℕ, ◌+◌, ◌-◌, ◌<◌, ◌≤◌, zero, suc, true, List, [], ◌∷◌, ◌++◌, length, take, drop, Some, None}
use Rattle.std.proofs.Common.{refl, sym, ap, ◌∙◌, subst, arith, inl, inr}
use Rattle.std.specs.Prelude.{slice_get, get_or, min, nat_le, nat_lt, if◌then◌else◌, ◌&&◌}
use Rattle.std.proofs.lemmas.Bool.{cases_lt, le-leb, lt-leb, lt-ltb, le-ltb}
use Rattle.std.proofs.lemmas.Option.{slice_get-get_or}
use Rattle.em_named.specs.Names.{name, named, after_line, names}
use Rattle.em_named.specs.Numbers.{performed_by, end_of, line_of, name_of, number_of, number_in, above}
use Rattle.em_named.specs.declared.did.Did.{Did}
use Rattle.em_named.specs.declared.did.Did.TheVariants.{Performed, TookBack}
use Rattle.em_named.specs.declared.did.Name.{Name}
use Rattle.em_named.proofs.NameLaws.{behind, get-drop, get-named, get-past, names-take}

-- ---- how many so many lines performed

pub end-next : (k : ℕ) (did : List Did) (d : Did) → slice_get did k ≡ Some d
    → end_of (suc k) did ≡ end_of k did + performed_by d
end-next k [] d is = absurd (cc)
end-next zero (x ∷ did) d is =
    let same : x ≡ d = cc in
    let e : performed_by x + 0 ≡ 0 + performed_by d = omega (arith, ap performed_by same) in
    e
end-next (suc k) (x ∷ did) d is =
    let more = end-next k did d is in
    omega (arith, more)

pub end-before : (line : ℕ) (did : List Did) (d other : Did) → 0 < line → line ≤ length did
    → d ≡ get_or did (line - 1) other → end_of line did ≡ end_of (line - 1) did + performed_by d
end-before line did d other some le is =
    let e : suc (line - 1) ≡ line = omega arith in
    subst (λ n. end_of n did ≡ end_of (line - 1) did + performed_by d) e
    (end-next (line - 1) did d (slice_get-get_or did (line - 1) other (omega arith) ∙ ap Some (sym is)))

pub end-mono : (k n : ℕ) (did : List Did) → k ≤ n → end_of k did ≤ end_of n did
end-mono zero n did le = omega arith
end-mono (suc k) zero did le = absurd (omega arith)
end-mono (suc k) (suc n) [] le = omega arith
end-mono (suc k) (suc n) (d ∷ did) le =
    let more = end-mono k n did (omega arith) in
    omega (arith, more)

pub end-take : (k n : ℕ) (did : List Did) → k ≤ n → end_of k (take n did) ≡ end_of k did
end-take zero n did le = refl
end-take (suc k) zero did le = absurd (omega arith)
end-take (suc k) (suc n) [] le = refl
end-take (suc k) (suc n) (d ∷ did) le = ap (λ m. performed_by d + m) (end-take k n did (omega arith))

-- ---- the line of a number

line-first : (n : ℕ) (d : Did) (did : List Did) → suc n ≤ performed_by d → line_of (suc n) (d ∷ did) ≡ 1
line-first n d did le =
    ap (λ b. if b then 1 else suc (line_of (suc n - performed_by d) did)) (le-leb (suc n) (performed_by d) le)

line-later : (n : ℕ) (d : Did) (did : List Did) → performed_by d < suc n
    → line_of (suc n) (d ∷ did) ≡ suc (line_of (suc n - performed_by d) did)
line-later n d did lt =
    ap (λ b. if b then 1 else suc (line_of (suc n - performed_by d) did)) (lt-leb (suc n) (performed_by d) lt)

pub line-is : (n line : ℕ) (did : List Did) → line ≤ length did → (0 < line → end_of (line - 1) did < n)
    → (line < length did → n ≤ end_of line did) → line ≡ line_of n did
line-is zero line did le before behind = elim (cases_lt 0 line) [
  | inl some ↦
      let none = before some in
      absurd (omega arith)
  | inr none ↦ omega arith
]
line-is (suc n) line [] le before behind = omega arith
line-is (suc n) zero (d ∷ did) le before behind =
    let none = behind (omega arith) in
    absurd (omega arith)
line-is (suc n) (suc zero) (d ∷ did) le before behind = elim (cases_lt (performed_by d) (suc n)) [
  | inl lt ↦
      let again = line-is (suc n - performed_by d) 0 did (omega arith) (λ some. absurd (omega arith))
      (λ more.
      let le' = behind (omega arith) in
      omega (arith, le')) in
      ap suc again ∙ sym (line-later n d did lt)
  | inr ge ↦ sym (line-first n d did ge)
]
line-is (suc n) (suc (suc line)) (d ∷ did) le before behind =
    let e : suc (suc line) - 1 ≡ suc line = omega arith in
    let e' : suc line - 1 ≡ line = omega arith in
    let past : end_of (suc line) (d ∷ did) < suc n = subst (λ k. end_of k (d ∷ did) < suc n) e (before (omega arith)) in
    let lt : performed_by d < suc n = omega (arith, past) in
    let again = line-is (suc n - performed_by d) (suc line) did (omega arith)
    (λ some. subst (λ k. end_of k did < suc n - performed_by d) (sym e') (omega (arith, past)))
    (λ more.
    let le' = behind (omega arith) in
    omega (arith, le')) in
    ap suc again ∙ sym (line-later n d did lt)

pub line-within : (n : ℕ) (did : List Did) → line_of n did ≤ length did
line-within zero did = omega arith
line-within (suc n) [] = omega arith
line-within (suc n) (d ∷ did) = elim (cases_lt (performed_by d) (suc n)) [
  | inl lt ↦
      let more = line-within (suc n - performed_by d) did in
      omega (arith, line-later n d did lt, more)
  | inr ge ↦ omega (arith, line-first n d did ge)
]

-- an event that was performed lies behind the end of the line before, and not behind that of its own
pub record Ends (n line : ℕ) (did : List Did) : Type 0 where
  pub first : 1 ≤ line
  pub before : end_of (line - 1) did < n
  pub behind : n ≤ end_of line did

ends-later : (n line : ℕ) (d : Did) (did : List Did) → performed_by d < n → Ends (n - performed_by d) line did
    → Ends n (suc line) (d ∷ did)
ends-later n (suc line) d did lt ends =
    let e : suc (suc line) - 1 ≡ suc line = omega arith in
    let e' : suc line - 1 ≡ line = omega arith in
    let less : end_of line did < n - performed_by d = subst (λ k. end_of k did < n - performed_by d) e' ends.before in
    record {
      first = omega arith;
      before = subst (λ k. end_of k (d ∷ did) < n) (sym e) (omega (arith, less, lt));
      behind = omega (arith, ends.behind, lt);
    }
ends-later n zero d did lt ends = absurd (omega (arith, ends.first))

pub line-ends : (n : ℕ) (did : List Did) → 0 < n → n ≤ end_of (length did) did → Ends n (line_of n did) did
line-ends zero did some le = absurd (omega arith)
line-ends (suc n) [] some le = absurd (omega arith)
line-ends (suc n) (d ∷ did) some le = elim (cases_lt (performed_by d) (suc n)) [
  | inl lt ↦ subst (λ line. Ends (suc n) line (d ∷ did)) (sym (line-later n d did lt))
      (ends-later (suc n) (line_of (suc n - performed_by d) did) d did lt
      (line-ends (suc n - performed_by d) did (omega arith) (omega (arith, le))))
  | inr ge ↦ subst (λ line. Ends (suc n) line (d ∷ did)) (sym (line-first n d did ge))
      (record { first = omega arith; before = omega arith; behind = omega (arith, ge) })
]

-- ---- the numbers of the events that stand

-- it is one of the events that the first so many lines performed
pub record Fits (k : ℕ) (did : List Did) (one : Name) : Type 0 where
  pub first : 1 ≤ one.line
  pub last : one.line ≤ k
  pub access : 1 ≤ one.access
  pub held : number_of did one ≤ end_of one.line did

fits-more : (k : ℕ) (did : List Did) (one : Name) → Fits k did one → Fits (suc k) did one
fits-more k did one fits =
    record { first = fits.first; last = omega (arith, fits.last); access = fits.access; held = fits.held }

some-is : (a b : Name) → Some a ≡ Some b → a ≡ b
some-is a b e = cc

fits-new : (k i count : ℕ) (did : List Did) (one : Name) → slice_get did k ≡ Some (Performed count) → i < count
    → name (suc k) (count - i) ≡ one → Fits (suc k) did one
fits-new k i count did one is lt same =
    let more = end-next k did (Performed count) is in
    let e : suc k - 1 ≡ k = omega arith in
    let there : end_of (suc k - 1) did ≡ end_of k did = ap (λ n. end_of n did) e in
    subst (Fits (suc k) did) same
    (record { first = omega arith; last = omega arith; access = omega arith; held = omega (arith, more, there) })

-- the number falls from one event to the next older one
abbrev pub Falls : List Did → List Name → Type 0
Falls did standing = (i j : ℕ) (newer older : Name) → i < j → slice_get standing i ≡ Some newer
    → slice_get standing j ≡ Some older → number_of did older < number_of did newer

abbrev pub AllFit : ℕ → List Did → List Name → Type 0
AllFit k did standing = (i : ℕ) (one : Name) → slice_get standing i ≡ Some one → Fits k did one

fit-line : (k : ℕ) (did : List Did) (d : Did) (standing : List Name) → slice_get did k ≡ Some d → AllFit k did standing
    → AllFit (suc k) did (after_line (suc k) d standing)
fit-line k did (Performed count) standing is fit i one at = elim (cases_lt i count) [
  | inl new ↦ fits-new k i count did one is new (some-is _ _ (sym (get-named (suc k) count i standing new) ∙ at))
  | inr old ↦ fits-more k did one (fit (i - count) one (sym (get-past (suc k) count i standing old) ∙ at))
]
fit-line k did (TookBack count) standing is fit i one at =
    fits-more k did one (fit (count + i) one (sym (get-drop count i standing) ∙ at))

none-at : (i : ℕ) (standing : List Name) (one : Name) → standing ≡ [] → slice_get standing i ≡ Some one → ⊥
none-at i [] one e is = cc
none-at i (x ∷ standing) one e is = cc

get-some : (k : ℕ) (did : List Did) → k < length did → slice_get did k ≡ Some (get_or did k (Performed 0))
get-some k did lt = slice_get-get_or did k (Performed 0) lt

pub all-fit : (k : ℕ) (did : List Did) → k ≤ length did → AllFit k did (names (take k did))
all-fit zero did le = λ i one is. absurd (none-at i [] one refl is)
all-fit (suc k) did le =
    let d = get_or did k (Performed 0) in
    let at = get-some k did (omega arith) in
    subst (AllFit (suc k) did) (sym (names-take k did d at))
    (fit-line k did d (names (take k did)) at (all-fit k did (omega arith)))

below-end : (k : ℕ) (did : List Did) (one : Name) → Fits k did one → number_of did one ≤ end_of k did
below-end k did one fits =
    let le = end-mono one.line k did fits.last in
    omega (arith, fits.held, le)

fall-drop : (n : ℕ) (did : List Did) (standing : List Name) → Falls did standing → Falls did (drop n standing)
fall-drop n did standing falls i j newer older lt is is' =
    falls (n + i) (n + j) newer older (omega arith) (sym (get-drop n i standing) ∙ is) (sym (get-drop n j standing) ∙ is')

number-new : (k m : ℕ) (did : List Did) (one : Name) → name (suc k) m ≡ one → number_of did one ≡ end_of k did + m
number-new k m did one is =
    let e : suc k - 1 ≡ k = omega arith in
    sym (ap (number_of did) is) ∙ ap (λ n. end_of n did + m) e

fall-line : (k count : ℕ) (did : List Did) (standing : List Name) → AllFit k did standing → Falls did standing
    → Falls did (named (suc k) count ++ standing)
fall-line k count did standing fit falls i j newer older lt is is' = elim (cases_lt i count) [
  | inl new ↦
      let at = number-new k (count - i) did newer (some-is _ _ (sym (get-named (suc k) count i standing new) ∙ is)) in
      elim (cases_lt j count) [
        | inl both ↦
            let at' = number-new k (count - j) did older
            (some-is _ _ (sym (get-named (suc k) count j standing both) ∙ is')) in
            omega (arith, at, at')
        | inr past ↦
            let le = below-end k did older (fit (j - count) older (sym (get-past (suc k) count j standing past) ∙ is')) in
            omega (arith, at, le)
      ]
  | inr old ↦
      let le : count ≤ j = omega arith in
      falls (i - count) (j - count) newer older (omega arith) (sym (get-past (suc k) count i standing old) ∙ is)
      (sym (get-past (suc k) count j standing le) ∙ is')
]

fall-after : (k : ℕ) (did : List Did) (d : Did) (standing : List Name) → AllFit k did standing → Falls did standing
    → Falls did (after_line (suc k) d standing)
fall-after k did (Performed count) standing fit falls = fall-line k count did standing fit falls
fall-after k did (TookBack count) standing fit falls = fall-drop count did standing falls

all-fall : (k : ℕ) (did : List Did) → k ≤ length did → Falls did (names (take k did))
all-fall zero did le = λ i j newer older lt is is'. absurd (none-at i [] newer refl is)
all-fall (suc k) did le =
    let d = get_or did k (Performed 0) in
    let at = get-some k did (omega arith) in
    subst (Falls did) (sym (names-take k did d at))
    (fall-after k did d (names (take k did)) (all-fit k did (omega arith)) (all-fall k did (omega arith)))

-- at a place
pub falls : (k back : ℕ) (did : List Did) → k ≤ length did → Falls did (drop back (names (take k did)))
falls k back did le = fall-drop back did (names (take k did)) (all-fall k did le)

pub fit : (k back : ℕ) (did : List Did) → k ≤ length did → AllFit k did (drop back (names (take k did)))
fit k back did le i one is = all-fit k did le (back + i) one (sym (get-drop back i (names (take k did))) ∙ is)

-- a name is found by its number
pub found : (k : ℕ) (did : List Did) (one : Name) → k ≤ length did → Fits k did one
    → name_of (number_of did one) did ≡ Some one
found k did one le fits =
    let n = number_of did one in
    let mono = end-mono one.line (length did) did (omega (arith, fits.last)) in
    let line : one.line ≡ line_of n did =
    line-is n one.line did (omega (arith, fits.last)) (λ some. omega (arith, fits.access)) (λ more. fits.held) in
    let some : nat_lt 0 n ≡ true = lt-ltb 0 n (omega (arith, fits.access)) in
    let held : nat_le n (end_of (length did) did) ≡ true = le-leb n (end_of (length did) did) (omega (arith, fits.held, mono)) in
    let access : n - end_of (one.line - 1) did ≡ one.access = omega arith in
    ap (λ b. if b && nat_le n (end_of (length did) did) then Some (name (line_of n did) (n - end_of (line_of n did - 1) did)) else None) some
    ∙ ap (λ b. if b then Some (name (line_of n did) (n - end_of (line_of n did - 1) did)) else None) held
    ∙ ap (λ l. Some (name l (n - end_of (l - 1) did))) (sym line) ∙ ap (λ a. Some (name one.line a)) access

-- ---- how many numbers are above

above-yes : (n : ℕ) (did : List Did) (one : Name) (standing : List Name) → n < number_of did one
    → above n did (one ∷ standing) ≡ suc (above n did standing)
above-yes n did one standing lt =
    ap (λ b. if b then suc (above n did standing) else above n did standing) (lt-ltb n (number_of did one) lt)

above-no : (n : ℕ) (did : List Did) (one : Name) (standing : List Name) → number_of did one ≤ n
    → above n did (one ∷ standing) ≡ above n did standing
above-no n did one standing le =
    ap (λ b. if b then suc (above n did standing) else above n did standing) (le-ltb n (number_of did one) le)

pub above-none : (n : ℕ) (did : List Did) (standing : List Name)
    → ((i : ℕ) (one : Name) → slice_get standing i ≡ Some one → number_of did one ≤ n) → above n did standing ≡ 0
above-none n did [] le = refl
above-none n did (one ∷ standing) le =
    above-no n did one standing (le 0 one refl) ∙ above-none n did standing (λ i other is. le (suc i) other is)

-- of the k oldest events of a line, before which so many were performed
pub above-line : (n line k : ℕ) (did : List Did) (standing : List Name)
    → above n did (named (suc line) k ++ standing) ≡ min k ((end_of line did + k) - n) + above n did standing
above-line n line zero did standing =
    let e : above n did standing ≡ min 0 ((end_of line did + 0) - n) + above n did standing = omega arith in
    e
above-line n line (suc k) did standing =
    let more = above-line n line k did standing in
    let one = name (suc line) (suc k) in
    let number = number-new line (suc k) did one refl in
    elim (cases_lt n (end_of line did + suc k)) [
      | inl lt ↦
          let yes = above-yes n did one (named (suc line) k ++ standing) (omega (arith, number)) in
          omega (arith, yes, more)
      | inr ge ↦
          let no = above-no n did one (named (suc line) k ++ standing) (omega (arith, number)) in
          omega (arith, no, more)
    ]

tail-falls : (did : List Did) (one : Name) (standing : List Name) → Falls did (one ∷ standing) → Falls did standing
tail-falls did one standing falls i j newer older lt is is' = falls (suc i) (suc j) newer older (omega arith) is is'

-- where the newest is not above, none is
all-below : (n : ℕ) (did : List Did) (one : Name) (standing : List Name) → Falls did (one ∷ standing)
    → number_of did one ≤ n → above n did (one ∷ standing) ≡ 0
all-below n did one standing falls le =
    above-no n did one standing le
    ∙ above-none n did standing (λ i other is.
    let less = falls 0 (suc i) one other (omega arith) refl is in
    omega (arith, less, le))

-- those above stand first
pub above-front : (n k : ℕ) (did : List Did) (standing : List Name) → Falls did standing → k < above n did standing
    → n < number_in did (slice_get standing k)
above-front n k did [] falls lt = absurd (omega arith)
above-front n zero did (one ∷ standing) falls lt = elim (cases_lt n (number_of did one)) [
  | inl more ↦ more
  | inr less ↦ absurd (omega (arith, lt, all-below n did one standing falls less))
]
above-front n (suc k) did (one ∷ standing) falls lt = elim (cases_lt n (number_of did one)) [
  | inl more ↦ above-front n k did standing (tail-falls did one standing falls)
      (omega (arith, lt, above-yes n did one standing more))
  | inr less ↦ absurd (omega (arith, lt, all-below n did one standing falls less))
]

-- ---- as they are sought

pub ends-of : (n : ℕ) (did : List Did) → 0 < n → n ≤ end_of (line_of n did) did → Ends n (line_of n did) did
ends-of n did some le =
    let upto = end-mono (line_of n did) (length did) did (line-within n did) in
    line-ends n did some (omega (arith, le, upto))

-- not so many events were performed
pub name-none : (n : ℕ) (did : List Did) → (n ≡ 0) ⊎ (end_of (line_of n did) did < n) → None ≡ name_of n did
name-none zero did why = refl
name-none (suc n) did (inl none) = absurd (omega arith)
name-none (suc n) did (inr past) = elim (cases_lt (end_of (length did) did) (suc n)) [
  | inl more ↦
      let line = line_of (suc n) did in
      let one = Some (name line (suc n - end_of (line - 1) did)) in
      let yes : nat_lt 0 (suc n) ≡ true = lt-ltb 0 (suc n) (omega arith) in
      let no = lt-leb (suc n) (end_of (length did) did) more in
      sym (ap (λ b. if b && nat_le (suc n) (end_of (length did) did) then one else None) yes
      ∙ ap (λ b. if b then one else None) no)
  | inr held ↦
      let ends = line-ends (suc n) did (omega arith) held in
      absurd (omega (arith, ends.behind, past))
]

pub name-some : (n line before : ℕ) (did : List Did) → 0 < n → line ≡ line_of n did → n ≤ end_of line did
    → before ≡ end_of (line - 1) did → Some (name line (n - before)) ≡ name_of n did
name-some n line before did some is held end =
    let upto = end-mono line (length did) did (omega (arith, line-within n did)) in
    let there = line_of n did in
    let yes : nat_lt 0 n ≡ true = lt-ltb 0 n some in
    let all : nat_le n (end_of (length did) did) ≡ true = le-leb n (end_of (length did) did) (omega (arith, held, upto)) in
    ap (λ b. Some (name line (n - b))) end ∙ ap (λ l. Some (name l (n - end_of (l - 1) did))) is
    ∙ sym (ap (λ b. if b then Some (name there (n - end_of (there - 1) did)) else None) all)
    ∙ sym (ap (λ b. if b && nat_le n (end_of (length did) did) then Some (name there (n - end_of (there - 1) did)) else None) yes)

drop-within : (line k i : ℕ) (standing : List Name) → i ≤ k
    → drop i (named line k ++ standing) ≡ named line (k - i) ++ standing
drop-within line k zero standing le =
    let e : k ≡ k - 0 = omega arith in
    ap (λ n. named line n ++ standing) e
drop-within line zero (suc i) standing le = absurd (omega arith)
drop-within line (suc k) (suc i) standing le =
    let e : k - i ≡ suc k - suc i = omega arith in
    drop-within line k i standing (omega arith) ∙ ap (λ n. named line n ++ standing) e

-- so many of a line's events are above
pub above-step : (n line depth count : ℕ) (did : List Did) (other : Did) → 0 < line → line ≤ length did
    → get_or did (line - 1) other ≡ Performed count → depth < count
    → above n did (drop depth (names (take line did)))
    ≡ min (count - depth) ((end_of line did - depth) - n) + above n did (names (take (line - 1) did))
above-step n line depth count did other some le is lt =
    let standing = names (take (line - 1) did) in
    let e : suc (line - 1) ≡ line = omega arith in
    let end = end-before line did (Performed count) other some le (sym is) in
    let here : end_of (line - 1) did + (count - depth) ≡ end_of line did - depth = omega (arith, end) in
    ap (λ l. above n did (drop depth l)) (behind line did (Performed count) other some le is)
    ∙ ap (above n did) (drop-within line count depth standing (omega arith))
    ∙ ap (λ l. above n did (named l (count - depth) ++ standing)) (sym e)
    ∙ above-line n (line - 1) (count - depth) did standing
    ∙ ap (λ m. min (count - depth) (m - n) + above n did standing) here

-- none is above that was performed by lines which performed no more than so many
pub above-end : (n line depth : ℕ) (did : List Did) → line ≤ length did → end_of line did ≤ n
    → above n did (drop depth (names (take line did))) ≡ 0
above-end n line depth did le past = above-none n did (drop depth (names (take line did))) (λ i one is.
    let held = below-end line did one (fit line depth did le i one is) in
    omega (arith, held))
