-- Memory writes of what differs in a page, page by page.
use Rattle.std.proofs.Common.{◌≡◌, ℕ, ◌+◌, ◌-◌, ◌≤◌, ◌<◌, ◌++◌, suc, List, [], ◌∷◌, length, take, drop, sym, ap, ◌∙◌, subst, refl}
use Rattle.std.proofs.Common.{arith, rules, length-take, length-append, length-drop, take-add}
use Rattle.std.proofs.lemmas.List.{take_at, drop_at, take-take, drop-drop, length-take-le, take-append-drop, drop-append-le, append_assoc}
use Rattle.em_mem.specs.Memory.{part, put}
use Rattle.std.proofs.Common.{min, inl, inr}
use Rattle.std.proofs.lemmas.Bool.{lt-ltb, le-ltb, cases_lt}
use Rattle.std.proofs.lemmas.List.{take_min}
use Rattle.em_mem.proofs.PutLaws.{length-part, drop_past-put}
use Rattle.em_step.specs.Event.{Event, pokes}
use Rattle.em_c.specs.Difference.{same_at_head, up_to_last}
use Rattle.em_c.specs.Sync.{IsWanting, PerformsAll, run_writes, page_writes, writes_from, pages}
use Rattle.em_c.specs.declared.tagged.Tagged.{Tagged}
use Rattle.em_c.proofs.DifferenceLaws.{last_none}

-- what lies up to the end of a write
pub take_end-put : (m : List ℕ) (a : ℕ) (d : List ℕ) → a ≤ length m → take (a + length d) (put m a d) ≡ take a m ++ d
take_end-put m a d within =
    let front : length (take a m) ≡ a = length-take-le a m within in
    let size : length (take a m ++ d) ≡ a + length d = length-append (take a m) d ∙ ap (λ k. k + length d) front in
    ap (take (a + length d)) (sym (append_assoc (take a m) d (drop (a + length d) m)))
    ∙ take_at (take a m ++ d) (drop (a + length d) m) (a + length d) size

-- octets that are there already
pub put_same : (m : List ℕ) (a : ℕ) (d : List ℕ) → part m a (length d) ≡ d → put m a d ≡ m
put_same m a d same =
    ap (λ x. take a m ++ x)
    ((λ i. sym same i ++ sym (drop-drop (length d) a m) i) ∙ take-append-drop (length d) (drop a m))
    ∙ take-append-drop a m

-- head, what is between them, and tail
pub three_pieces : (xs : List ℕ) (f e : ℕ) → f ≤ e → take f xs ++ (part xs f (e - f) ++ drop e xs) ≡ xs
three_pieces xs f e le =
    let whole : f + (e - f) ≡ e = omega arith in
    let rest : drop (e - f) (drop f xs) ≡ drop e xs = drop-drop (e - f) f xs ∙ ap (λ k. drop k xs) whole in
    ap (λ y. take f xs ++ (part xs f (e - f) ++ y)) (sym rest)
    ∙ ap (λ y. take f xs ++ y) (take-append-drop (e - f) (drop f xs)) ∙ take-append-drop f xs

-- the end of a part, and what lies behind it
drop_in : (m : List ℕ) (a n e : ℕ) → e ≤ n → a + n ≤ length m → drop (a + e) m ≡ drop e (part m a n) ++ drop (a + n) m
drop_in m a n e le held =
    let size : length (part m a n) ≡ n = length-part m a n held in
    sym (drop-drop e a m) ∙ ap (drop e) (sym (take-append-drop n (drop a m)))
    ∙ drop-append-le e (part m a n) (drop n (drop a m)) (omega (arith, size))
    ∙ ap (λ y. drop e (part m a n) ++ y) (drop-drop n a m)

-- of octets whose head and tail are there already, what lies between is enough
pub put_between : (m d : List ℕ) (a f e : ℕ) → a + length d ≤ length m → f ≤ e → e ≤ length d
    → take f (part m a (length d)) ≡ take f d → drop e (part m a (length d)) ≡ drop e d
    → put m (a + f) (part d f (e - f)) ≡ put m a d
put_between m d a f e held le most head tail =
    let rest : List ℕ = drop (a + length d) m in
    let mid : List ℕ = part d f (e - f) in
    let long : length mid ≡ e - f = length-part d f (e - f) (omega arith) in
    let place : a + f + length mid ≡ a + e = omega (arith, long) in
    let front : take (a + f) m ≡ take a m ++ take f d
    = take-add a f m ∙ ap (λ y. take a m ++ y) (sym (take-take f (length d) (drop a m) (omega arith)) ∙ head) in
    let back : drop (a + f + length mid) m ≡ drop e d ++ rest
    = ap (λ k. drop k m) place ∙ drop_in m a (length d) e most held ∙ ap (λ y. y ++ rest) tail in
    (λ i. front i ++ (mid ++ back i))
    ∙ append_assoc (take a m) (take f d) (mid ++ (drop e d ++ rest))
    ∙ ap (λ y. take a m ++ (take f d ++ y)) (sym (append_assoc mid (drop e d) rest))
    ∙ ap (λ y. take a m ++ y) (sym (append_assoc (take f d) (mid ++ drop e d) rest)
    ∙ ap (λ y. y ++ rest) (three_pieces d f e le))

-- ---- lists that are done from their head on

pub take_next : {X : Type 0} (all p r : List X) (c : ℕ) → c ≤ length all → drop c all ≡ p ++ r
    → take (c + length p) all ≡ take c all ++ p
take_next all p r c within is =
    take-add c (length p) all ∙ ap (λ y. take c all ++ take (length p) y) is
    ∙ ap (λ y. take c all ++ y) (take_at p r (length p) refl)

pub drop_next : {X : Type 0} (all p r : List X) (c : ℕ) → drop c all ≡ p ++ r → drop (c + length p) all ≡ r
drop_next all p r c is =
    sym (drop-drop (length p) c all) ∙ ap (drop (length p)) is ∙ drop_at p r (length p) refl

-- ---- the writes of a page

-- none, where nothing differs
pub no_writes : (at : ℕ) (old new : List ℕ) → old ≡ new → page_writes at old new ≡ []
no_writes at old new same =
    let none : up_to_last old new ≡ 0 = ap (λ x. up_to_last x new) same ∙ last_none new in
    ap (run_writes at new (same_at_head old new)) none ∙ rw (le-ltb (same_at_head old new) 0 (omega arith)) refl

-- one, where the first that differs lies before the end of the last
pub one_write : (at : ℕ) (old new : List ℕ) (f e : ℕ) → f ≡ same_at_head old new → e ≡ up_to_last old new → f < e
    → page_writes at old new ≡ pokes (at + f) (part new f (e - f)) ∷ []
one_write at old new f e first last lt =
    (λ i. run_writes at new (sym first i) (sym last i)) ∙ rw (lt-ltb f e lt) refl

-- ---- page by page

pages_step : (n : ℕ) → 0 < n → pages n ≡ suc (pages (n - 4096))
pages_step n some = omega arith

-- those behind a page
from_rest : (b : ℕ) (m w : List ℕ) (at k : ℕ) → at < length w → k ≡ min 4096 (length w - at)
    → writes_from (pages (length w - at - 4096)) (b + at + 4096) (drop 4096 (drop at m)) (drop 4096 (drop at w))
    ≡ writes_from (pages (length w - (at + k))) (b + (at + k)) (drop (at + k) m) (drop (at + k) w)
unfolding writes_from
from_rest b m w at k inside is = elim (cases_lt (length w - at) 4096) [
  | inl short ↦
      let no_more : pages (length w - at - 4096) ≡ 0 = omega (arith, short) in
      let at_end : pages (length w - (at + k)) ≡ 0 = omega (arith, short, is) in
      ap (λ j. writes_from j (b + at + 4096) (drop 4096 (drop at m)) (drop 4096 (drop at w))) no_more
      ∙ sym (ap (λ j. writes_from j (b + (at + k)) (drop (at + k) m) (drop (at + k) w)) at_end)
  | inr long ↦
      let whole : 4096 ≡ k = omega (arith, long, is) in
      let left : length w - at - 4096 ≡ length w - (at + k) = omega (arith, whole) in
      let place : b + at + 4096 ≡ b + (at + k) = omega (arith, whole) in
      let behind_m : drop 4096 (drop at m) ≡ drop (at + k) m
      = drop-drop 4096 at m ∙ ap (λ j. drop (at + j) m) whole in
      let behind_w : drop 4096 (drop at w) ≡ drop (at + k) w
      = drop-drop 4096 at w ∙ ap (λ j. drop (at + j) w) whole in
      λ i. writes_from (pages (left i)) (place i) (behind_m i) (behind_w i)
]

-- the page at an address, and those behind it
pub from_next : (b : ℕ) (m w : List ℕ) (at k : ℕ) → length m ≡ length w → at < length w → k ≡ min 4096 (length w - at)
    → writes_from (pages (length w - at)) (b + at) (drop at m) (drop at w)
    ≡ page_writes (b + at) (part m at k) (part w at k)
    ++ writes_from (pages (length w - (at + k))) (b + (at + k)) (drop (at + k) m) (drop (at + k) w)
unfolding writes_from
from_next b m w at k size inside is =
    let page_of : (x : List ℕ) → length x ≡ length w → take 4096 (drop at x) ≡ part x at k
    = λ x long. sym (take_min 4096 (drop at x))
    ∙ ap (λ j. take (min 4096 j) (drop at x)) (length-drop at x ∙ ap (λ j. j - at) long)
    ∙ ap (λ j. take j (drop at x)) (sym is) in
    ap (λ j. writes_from j (b + at) (drop at m) (drop at w)) (pages_step (length w - at) (omega arith))
    ∙ (λ i. page_writes (b + at) (page_of m size i) (page_of w refl i)
    ++ from_rest b m w at k inside is i)

-- what is left to be written: the page of the caller's memory at a place, and those behind it, of memory from a base on
pub left_next : (all : List Event) (b : ℕ) (whole w : List ℕ) (c at k : ℕ) → length (drop b whole) ≡ length w
    → at < length w → k ≡ min 4096 (length w - at)
    → drop c all ≡ writes_from (pages (length w - at)) (b + at) (drop at (drop b whole)) (drop at w)
    → drop c all ≡ page_writes (b + at) (part whole (b + at) (length (part w at (at + k - at)))) (part w at (at + k - at))
    ++ writes_from (pages (length w - (at + k))) (b + (at + k)) (drop (at + k) (drop b whole)) (drop (at + k) w)
left_next all b whole w c at k size inside is left =
    let page : part w at (at + k - at) ≡ part w at k = ap (part w at) (omega arith) in
    let long : length (part w at (at + k - at)) ≡ k = ap length page ∙ length-part w at k (omega (arith, is, inside)) in
    left ∙ from_next b (drop b whole) w at k size inside is
    ∙ (λ i. page_writes (b + at) (take (sym long i) (drop-drop at b whole i)) (sym page i)
    ++ writes_from (pages (length w - (at + k))) (b + (at + k)) (drop (at + k) (drop b whole)) (drop (at + k) w))

-- octets that are put behind the base
pub put_behind : (b : ℕ) (m : List ℕ) (at : ℕ) (d : List ℕ) → b ≤ length m
    → drop b (put m (b + at) d) ≡ put (drop b m) at d
put_behind b m at d within =
    let size : length (take b m) ≡ b = length-take-le b m within in
    let place : b + at + length d ≡ b + (at + length d) = omega arith in
    let rest : drop (b + at + length d) m ≡ drop (at + length d) (drop b m)
    = ap (λ k. drop k m) place ∙ sym (drop-drop (at + length d) b m) in
    ap (drop b) ((λ i. take-add b at m i ++ (d ++ rest i))
    ∙ append_assoc (take b m) (take at (drop b m)) (d ++ drop (at + length d) (drop b m)))
    ∙ drop_at (take b m) (take at (drop b m) ++ (d ++ drop (at + length d) (drop b m))) b size

-- behind the last page
pub no_pages : (n at : ℕ) (m w : List ℕ) → n ≡ 0 → writes_from n at m w ≡ []
unfolding writes_from
no_pages n at m w is = ap (λ j. writes_from j at m w) is

-- ---- events one after another

pub performs_more : (xs ys : List Event) (t u w : Tagged) → PerformsAll xs t u → PerformsAll ys u w
    → PerformsAll (xs ++ ys) t w
performs_more [] ys t u w same rest = subst (λ x. PerformsAll ys x w) same rest
performs_more (x ∷ xs) ys t u w (m, first, more) rest = (m, first, performs_more xs ys m u w more rest)

-- where the host has no memory for the first of some events, it has none for the first of more
pub wanting_more : (t : Tagged) (xs ys : List Event) → IsWanting t xs → IsWanting t (xs ++ ys)
wanting_more t [] ys w = absurd (search (rules, w.is_first))
wanting_more t (x ∷ xs) ys w = record { first = w.first; is_first = w.is_first; refuses = w.refuses }

-- ---- what was read

-- it has as many octets as were asked for, where there are so many
pub read_is : (m old : List ℕ) (a k n : ℕ) → old ≡ part m a k → length old ≡ n → old ≡ part m a n
read_is m old a k n is long =
    let rest : List ℕ = drop a m in
    let least : min k (length rest) ≡ n = sym (length-take k rest) ∙ ap length (sym is) ∙ long in
    is ∙ sym (take_min k rest) ∙ ap (λ j. take j rest) least

-- ---- a page that was made the caller's

pub synced_page : (m w n : List ℕ) (at k : ℕ) → length m ≡ length w → at + k ≤ length w → take at m ≡ take at w
    → n ≡ put m at (part w at k) → take (at + k) n ≡ take (at + k) w
synced_page m w n at k size within same is =
    let long : length (part w at k) ≡ k = length-part w at k within in
    ap (take (at + k)) is ∙ ap (λ j. take (at + j) (put m at (part w at k))) (sym long)
    ∙ take_end-put m at (part w at k) (omega (arith, size)) ∙ ap (λ x. x ++ part w at k) same ∙ sym (take-add at k w)

pub behind_page : (m w n : List ℕ) (at k : ℕ) → length m ≡ length w → at + k ≤ length w
    → n ≡ put m at (part w at k) → drop (at + k) n ≡ drop (at + k) m
behind_page m w n at k size within is =
    let long : length (part w at k) ≡ k = length-part w at k within in
    ap (drop (at + k)) is
    ∙ subst (λ j. drop (at + j) (put m at (part w at k)) ≡ drop (at + j) m) long
    (drop_past-put m at (part w at k) (omega (arith, size, long)))
