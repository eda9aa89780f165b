-- What a search finds.
use Rattle.std.proofs.Common.{◌≡◌, ◌∙◌, ◌+◌, ◌-◌, ◌<◌, ◌≤◌, ℕ, zero, suc, Bool, true, false, List, [], ◌∷◌, Option}
use Rattle.std.proofs.Common.{Some, None, cond, refl, sym, ap, arith, add-zero, inl, inr}
use Rattle.std.specs.Prelude.{◌&&◌, find, min}
use Rattle.std.specs.Option.{option_map_or, option_or}
use Rattle.std.specs.List.{range_with_len}
use Rattle.std.proofs.lemmas.Bool.{cases_lt}
use Rattle.em_journal.specs.View.{View}
use Rattle.em_regs.specs.declared.ring.Ring.{Ring}
use Rattle.em_warnings.specs.declared.flaw.Flaw.{Flaw}
use Rattle.em_inspect.specs.Ring.{is_adapters, octets_at}
use Rattle.em_regs.specs.Ring.{descriptor_at}
use Rattle.em_warnings.specs.Descriptors.{first_flawed, has_flaw, is_flawed}

same_some : {X : Type 0} (x y : X) → Some x ≡ Some y → x ≡ y
same_some x y e = cc

-- by the first item, and by those behind it
passes_by : {X : Type 0} (p : X → Bool) (y x : X) (rest : Option X) (b : Bool) → p y ≡ b
    → (rest ≡ Some x → p x ≡ true) → cond b (Some y) rest ≡ Some x → p x ≡ true
passes_by p y x rest true is behind e = ap p (sym (same_some y x e)) ∙ is
passes_by p y x rest false is behind e = behind e

-- what is found passes the test
find_passes : {X : Type 0} (p : X → Bool) (xs : List X) (x : X) → find p xs ≡ Some x → p x ≡ true
find_passes p [] x e = cc
find_passes p (y ∷ ys) x e = passes_by p y x (find p ys) (p y) refl (find_passes p ys x) e

-- the first number of a range does not pass, where nothing in it is found
first_fails : (p : ℕ → Bool) (a : ℕ) (rest : Option ℕ) (b : Bool) → p a ≡ b → cond b (Some a) rest ≡ None
    → p a ≡ false
first_fails p a rest true is e = cc
first_fails p a rest false is e = is

-- nor is anything found behind it
rest_fails : (a : ℕ) (rest : Option ℕ) (b : Bool) → cond b (Some a) rest ≡ None → rest ≡ None
rest_fails a rest true e = cc
rest_fails a rest false e = e

-- no number of a range passes in which nothing is found
find_fails : (p : ℕ → Bool) (a n k : ℕ) → find p (range_with_len a n) ≡ None → k < n → p (a + k) ≡ false
find_fails p a zero k e less = absurd (omega arith)
find_fails p a (suc n) zero e less =
    ap p (add-zero a) ∙ first_fails p a (find p (range_with_len (a + 1) n)) (p a) refl e
find_fails p a (suc n) (suc k) e less =
    let next : a + suc k ≡ (a + 1) + k = omega arith in
    ap p next ∙ find_fails p (a + 1) n k (rest_fails a (find p (range_with_len (a + 1) n)) (p a) e) (omega arith)

-- nothing is found in a range of which no number passes
finds_none : (p : ℕ → Bool) (a n : ℕ) → ((i : ℕ) → a ≤ i → i < a + n → p i ≡ false)
    → find p (range_with_len a n) ≡ None
finds_none p a zero none = refl
finds_none p a (suc n) none =
    ap (λ b. cond b (Some a) (find p (range_with_len (a + 1) n))) (none a (omega arith) (omega arith))
    ∙ finds_none p (a + 1) n (λ i from below. none i (omega arith) (omega arith))

-- a search may stop where no number passes any more
finds_before : (p : ℕ → Bool) (a n k : ℕ) → k ≤ n → ((i : ℕ) → a + k ≤ i → i < a + n → p i ≡ false)
    → find p (range_with_len a k) ≡ find p (range_with_len a n)
finds_before p a n zero less none =
    sym (finds_none p a n (λ i from below. none i (omega arith) below))
finds_before p a zero (suc k) less none = absurd (omega arith)
finds_before p a (suc n) (suc k) less none =
    ap (λ rest. cond (p a) (Some a) rest)
    (finds_before p (a + 1) n k (omega arith) (λ i from below. none i (omega arith) (omega arith)))

-- the same of the numbers from one on, below another
pub finds_below : (p : ℕ → Bool) (a b held : ℕ) → ((i : ℕ) → held ≤ i → p i ≡ false)
    → find p (range_with_len a (min b held - a)) ≡ find p (range_with_len a (b - a))
finds_below p a b held none =
    finds_before p a (b - a) (min b held - a) (grind arith) (λ i from below. none i (grind arith))

both_fail : (b : Bool) → (b && false) ≡ false
both_fail true = refl
both_fail false = refl

-- a descriptor outside guest memory has no flaw
pub unflawed : (r : Ring) (v : View) (flaw : Flaw) (i : ℕ) → octets_at r v.present.base v.present.memory i ≡ None
    → is_flawed r v flaw i ≡ false
unflawed r v flaw i none =
    ap (λ (o : Option (List ℕ)). is_adapters r i && option_map_or (has_flaw v flaw (descriptor_at r i)) o false) none
    ∙ both_fail (is_adapters r i)

-- the same of a number from one on, below another
fails_from : (p : ℕ → Bool) (a b i : ℕ) → find p (range_with_len a (b - a)) ≡ None → a ≤ i → i < b → p i ≡ false
fails_from p a b i e from below =
    let at : i ≡ a + (i - a) = omega arith in ap p at ∙ find_fails p a (b - a) (i - a) e (omega arith)

-- by either search
found_by : {X : Type 0} (p : X → Bool) (a b : Option X) (x : X) → (a ≡ Some x → p x ≡ true)
    → (b ≡ Some x → p x ≡ true) → option_or a b ≡ Some x → p x ≡ true
found_by p None b x one other e = other e
found_by p (Some y) b x one other e = one e

neither : {X : Type 0} (a b : Option X) → option_or a b ≡ None → (a ≡ None) × (b ≡ None)
neither None b e = (refl, e)
neither (Some x) b e = cc

-- ---- a search from the head on, going round

pub round_found : (p : ℕ → Bool) (head count i : ℕ)
    → option_or (find p (range_with_len head (count - head))) (find p (range_with_len 0 (head - 0))) ≡ Some i
    → p i ≡ true
round_found p head count i e =
    found_by p (find p (range_with_len head (count - head))) (find p (range_with_len 0 (head - 0))) i
    (find_passes p (range_with_len head (count - head)) i) (find_passes p (range_with_len 0 (head - 0)) i) e

pub round_none : (p : ℕ → Bool) (head count : ℕ)
    → option_or (find p (range_with_len head (count - head))) (find p (range_with_len 0 (head - 0))) ≡ None
    → (i : ℕ) → i < count → p i ≡ false
round_none p head count e i below =
    let none = neither (find p (range_with_len head (count - head))) (find p (range_with_len 0 (head - 0))) e in
    elim (cases_lt i head) [
      | inl before ↦ fails_from p 0 head i none.1 (omega arith) before
      | inr behind ↦ fails_from p head count i none.0 behind below
    ]

pub flaw_found : (r : Ring) (v : View) (flaw : Flaw) (i : ℕ) → first_flawed r v flaw ≡ Some i
    → is_flawed r v flaw i ≡ true
flaw_found r v flaw i e = round_found (is_flawed r v flaw) r.head r.count i e

pub no_flaw : (r : Ring) (v : View) (flaw : Flaw) → first_flawed r v flaw ≡ None → (i : ℕ) → i < r.count
    → is_flawed r v flaw i ≡ false
no_flaw r v flaw e i below = round_none (is_flawed r v flaw) r.head r.count e i below
