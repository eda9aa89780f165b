-- A form is read in one way alone: where the octets of two things in it are the same, with any octets behind them, the
-- things are the same, and so are the octets behind.
use Rattle.std.proofs.Common.{◌≡◌, ℕ, ◌*◌, ◌<◌, ◌≤◌, ◌^◌, zero, suc, Bool, true, false, ◌==◌, cond}
use Rattle.std.proofs.Common.{List, [], ◌∷◌, ◌++◌, length, take, drop, Option, Some, None}
use Rattle.std.proofs.Common.{refl, sym, ap, ◌∙◌, arith, length-append, append_assoc}
use Rattle.std.proofs.Common.{eqb-true, length-drop, take-append-drop}
use Rattle.std.proofs.lemmas.List.{take_at, drop_at, length-take-le}
use Rattle.std.proofs.lemmas.Bool.{and_parts}
use Rattle.std.specs.List.{All, flat_map}
use Rattle.std.proofs.lemmas.List.Elements.{All-head, All-tail}
use Rattle.byteorder.specs.Endian.{little_number}
use Rattle.byteorder.specs.Numbers.{little_number-reads_back}
use Rattle.em_stored.specs.Machines.{IsTag}
use Rattle.em_stored.specs.Form.{word, number, counted, listed, tag_number, frame_form, are_zero, page_form, pages_form}

-- so few octets that eight count them
abbrev pub IsCountable : List ℕ → Type 0
IsCountable octets = length octets < 2 ^ 64

-- two things, and what stands behind them
abbrev pub AreSame : {A : Type 0} → A → A → List ℕ → List ℕ → Type 0
AreSame x y rest others = (x ≡ y) × (rest ≡ others)

-- what a form tells of the things of which P holds
abbrev pub Tells : {A : Type 0} → (A → List ℕ) → (A → Type 0) → Type 0
Tells {A} form P =
    (x y : A) (rest others : List ℕ) → P x → P y → IsCountable (form x ++ rest) → form x ++ rest ≡ form y ++ others
    → AreSame x y rest others

-- ---- octets cut at a place

pub same_front : (a b rest others : List ℕ) → length a ≡ length b → a ++ rest ≡ b ++ others → AreSame a b rest others
same_front a b rest others size e = (
  sym (take_at a rest (length a) refl) ∙ ap (take (length a)) e ∙ take_at b others (length a) (sym size),
  sym (drop_at a rest (length a) refl) ∙ ap (drop (length a)) e ∙ drop_at b others (length a) (sym size),
)

pub same_back : (a b rest others : List ℕ) → length rest ≡ length others → a ++ rest ≡ b ++ others
    → AreSame a b rest others
same_back a b rest others size e =
    same_front a b rest others (omega (arith, ap length e, length-append a rest, length-append b others)) e

-- ---- numbers

pub length-word : (n : ℕ) → length (word n) ≡ 4
unfolding word
length-word n = refl

pub length-number : (n : ℕ) → length (number n) ≡ 8
unfolding number
length-number n = refl

pub word_tells : Tells word (λ n. n < 2 ^ 32)
unfolding word
word_tells m n rest others m_fits n_fits _ e = (
  sym (little_number-reads_back 4 m rest m_fits) ∙ ap (little_number 4) e ∙ little_number-reads_back 4 n others n_fits,
  (same_front (word m) (word n) rest others refl e).1,
)

pub number_tells : Tells number (λ n. n < 2 ^ 64)
unfolding number
number_tells m n rest others m_fits n_fits _ e = (
  sym (little_number-reads_back 8 m rest m_fits) ∙ ap (little_number 8) e ∙ little_number-reads_back 8 n others n_fits,
  (same_front (number m) (number n) rest others refl e).1,
)

-- ---- octets behind their count

counted_count : (octets rest : List ℕ) → counted octets ++ rest ≡ number (length octets) ++ (octets ++ rest)
counted_count octets rest = append_assoc (number (length octets)) octets rest

counted_fits : (octets rest : List ℕ) → IsCountable (counted octets ++ rest) → length octets < 2 ^ 64
counted_fits octets rest few =
    omega (arith, length-append (counted octets) rest, length-append (number (length octets)) octets)

pub counted_tells : Tells counted (λ _. Unit {0})
counted_tells xs ys rest others _ _ few e =
    let more : IsCountable (counted ys ++ others) = omega (arith, ap length e) in
    let at : number (length xs) ++ (xs ++ rest) ≡ number (length ys) ++ (ys ++ others)
    = sym (counted_count xs rest) ∙ e ∙ counted_count ys others in
    let count = number_tells (length xs) (length ys) (xs ++ rest) (ys ++ others) (counted_fits xs rest few)
    (counted_fits ys others more) (omega (arith, ap length (counted_count xs rest))) at in
    same_front xs ys rest others count.0 count.1

-- ---- things one behind another

pub flat_tells : {A : Type 0} (form : A → List ℕ) (P : A → Type 0) → Tells form P → (xs ys : List A)
    (rest others : List ℕ) → length xs ≡ length ys → All P xs → All P ys → IsCountable (flat_map form xs ++ rest)
    → flat_map form xs ++ rest ≡ flat_map form ys ++ others → AreSame xs ys rest others
flat_tells form P tells [] [] rest others size all_xs all_ys few e = (refl, e)
flat_tells form P tells [] (y ∷ ys) rest others size all_xs all_ys few e = absurd (omega arith)
flat_tells form P tells (x ∷ xs) [] rest others size all_xs all_ys few e = absurd (omega arith)
flat_tells form P tells (x ∷ xs) (y ∷ ys) rest others size all_xs all_ys few e =
    let left = append_assoc (form x) (flat_map form xs) rest in
    let right = append_assoc (form y) (flat_map form ys) others in
    let at : form x ++ (flat_map form xs ++ rest) ≡ form y ++ (flat_map form ys ++ others) = sym left ∙ e ∙ right in
    let first = tells x y (flat_map form xs ++ rest) (flat_map form ys ++ others) (All-head P x xs all_xs)
    (All-head P y ys all_ys) (omega (arith, ap length left)) at in
    let others_are = flat_tells form P tells xs ys rest others (omega arith) (All-tail P x xs all_xs)
    (All-tail P y ys all_ys)
    (omega (arith, ap length left, length-append (form x) (flat_map form xs ++ rest))) first.1 in
    (λ i. first.0 i ∷ others_are.0 i, others_are.1)

-- none has no octets, so there are no more things than octets
no_more_things : {A : Type 0} (form : A → List ℕ) → ((x : A) → 1 ≤ length (form x)) → (xs : List A)
    → length xs ≤ length (flat_map form xs)
no_more_things form some [] = omega arith
no_more_things form some (x ∷ xs) =
    omega (arith, some x, no_more_things form some xs, length-append (form x) (flat_map form xs))

pub listed_tells : {A : Type 0} (form : A → List ℕ) (P : A → Type 0) → Tells form P → ((x : A) → 1 ≤ length (form x))
    → Tells (listed form) (All P)
listed_tells form P tells some xs ys rest others all_xs all_ys few e =
    let left = append_assoc (number (length xs)) (flat_map form xs) rest in
    let right = append_assoc (number (length ys)) (flat_map form ys) others in
    let at : number (length xs) ++ (flat_map form xs ++ rest) ≡ number (length ys) ++ (flat_map form ys ++ others)
    = sym left ∙ e ∙ right in
    let xs_fit : length xs < 2 ^ 64
    = omega (
      arith,
      ap length left,
      length-append (number (length xs)) (flat_map form xs ++ rest),
      length-append (flat_map form xs) rest,
      no_more_things form some xs,
    ) in
    let ys_fit : length ys < 2 ^ 64
    = omega (
      arith,
      ap length e,
      ap length right,
      length-append (number (length ys)) (flat_map form ys ++ others),
      length-append (flat_map form ys) others,
      no_more_things form some ys,
    ) in
    let count = number_tells (length xs) (length ys) (flat_map form xs ++ rest) (flat_map form ys ++ others) xs_fit
    ys_fit (omega (arith, ap length left)) at in
    flat_tells form P tells xs ys rest others count.0 all_xs all_ys
    (omega (arith, ap length left, length-append (number (length xs)) (flat_map form xs ++ rest))) count.1

-- ---- frames

tag_fits : (tag : Option ℕ) → IsTag tag → tag_number tag < 2 ^ 32
tag_fits None h = omega arith
tag_fits (Some tag) h = omega arith

tag_is_one : (s t : Option ℕ) → IsTag s → IsTag t → tag_number s ≡ tag_number t → s ≡ t
tag_is_one None None h k e = refl
tag_is_one None (Some t) h k e = absurd (omega arith)
tag_is_one (Some s) None h k e = absurd (omega arith)
tag_is_one (Some s) (Some t) h k e = ap Some e

pub frame_tells : Tells frame_form (λ frame. IsTag frame.tag)
frame_tells x y rest others x_is y_is few e =
    let left = append_assoc (word (tag_number x.tag)) (counted x.octets) rest in
    let right = append_assoc (word (tag_number y.tag)) (counted y.octets) others in
    let at : word (tag_number x.tag) ++ (counted x.octets ++ rest)
    ≡ word (tag_number y.tag) ++ (counted y.octets ++ others)
    = sym left ∙ e ∙ right in
    let tag = word_tells (tag_number x.tag) (tag_number y.tag) (counted x.octets ++ rest) (counted y.octets ++ others)
    (tag_fits x.tag x_is) (tag_fits y.tag y_is) (omega (arith, ap length left)) at in
    let octets = counted_tells x.octets y.octets rest others tt tt
    (omega (arith, ap length left, length-append (word (tag_number x.tag)) (counted x.octets ++ rest))) tag.1 in
    let same = tag_is_one x.tag y.tag x_is y_is tag.0 in
    (λ i. record { octets = octets.0 i; tag = same i }, octets.1)

-- ---- pages

zeros_are_one : (xs ys : List ℕ) → length xs ≡ length ys → are_zero xs ≡ true → are_zero ys ≡ true → xs ≡ ys
zeros_are_one [] [] size h k = refl
zeros_are_one [] (y ∷ ys) size h k = absurd (omega arith)
zeros_are_one (x ∷ xs) [] size h k = absurd (omega arith)
zeros_are_one (x ∷ xs) (y ∷ ys) size h k =
    let p = and_parts (x == 0) (are_zero xs) h in
    let q = and_parts (y == 0) (are_zero ys) k in
    (λ i. (eqb-true x 0 p.0 ∙ sym (eqb-true y 0 q.0)) i ∷ zeros_are_one xs ys (omega arith) p.1 q.1 i)

zero_is_not_one : (rest others : List ℕ) → 0 ∷ rest ≡ 1 ∷ others → ⊥
zero_is_not_one rest others e = cc

nothing_is : (xs : List ℕ) → length xs ≡ 0 → xs ≡ []
nothing_is [] h = refl
nothing_is (x ∷ xs) h = absurd (omega arith)

-- a page that is zero, or not
abbrev marked : Bool → List ℕ → List ℕ
marked is_zero page = cond is_zero (0 ∷ []) (1 ∷ page)

marked_tells : (b c : Bool) (x y rest others : List ℕ) → b ≡ are_zero x → c ≡ are_zero y → length x ≡ length y
    → marked b x ++ rest ≡ marked c y ++ others → AreSame x y rest others
marked_tells true true x y rest others h k size e =
    (zeros_are_one x y size (sym h) (sym k), ap (drop 1) e)
marked_tells true false x y rest others h k size e = absurd (zero_is_not_one rest (y ++ others) e)
marked_tells false true x y rest others h k size e = absurd (zero_is_not_one others (x ++ rest) (sym e))
marked_tells false false x y rest others h k size e = same_front x y rest others size (ap (drop 1) e)

pub page_tells : (x y rest others : List ℕ) → length x ≡ length y → page_form x ++ rest ≡ page_form y ++ others
    → AreSame x y rest others
page_tells x y rest others size e = marked_tells (are_zero x) (are_zero y) x y rest others refl refl size e

pub pages_tell : (n : ℕ) (xs ys rest others : List ℕ) → length xs ≡ 4096 * n → length ys ≡ 4096 * n
    → pages_form n xs ++ rest ≡ pages_form n ys ++ others → AreSame xs ys rest others
pages_tell zero xs ys rest others xs_size ys_size e =
    (nothing_is xs (omega arith) ∙ sym (nothing_is ys (omega arith)), e)
pages_tell (suc n) xs ys rest others xs_size ys_size e =
    let left = append_assoc (page_form (take 4096 xs)) (pages_form n (drop 4096 xs)) rest in
    let right = append_assoc (page_form (take 4096 ys)) (pages_form n (drop 4096 ys)) others in
    let page = page_tells (take 4096 xs) (take 4096 ys) (pages_form n (drop 4096 xs) ++ rest)
    (pages_form n (drop 4096 ys) ++ others)
    (length-take-le 4096 xs (omega arith) ∙ sym (length-take-le 4096 ys (omega arith)))
    (sym left ∙ e ∙ right) in
    let behind = pages_tell n (drop 4096 xs) (drop 4096 ys) rest others (omega (arith, length-drop 4096 xs))
    (omega (arith, length-drop 4096 ys)) page.1 in
    (sym (take-append-drop 4096 xs) ∙ (λ i. page.0 i ++ behind.0 i) ∙ take-append-drop 4096 ys, behind.1)
