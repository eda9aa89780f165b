-- The events that stand at a place, and their numbers.
use Rattle.std.proofs.Common.{◌≡◌, ℕ, ◌+◌, ◌-◌, ◌<◌, ◌≤◌, ◌^◌, zero, suc, List, [], ◌∷◌, length, take, drop, Some, None}
use Rattle.std.proofs.Common.{refl, sym, ap, ◌∙◌, subst, arith, inl, inr}
use Rattle.std.specs.Prelude.{IfSome, Option, slice_get, get_or, min}
use Rattle.std.proofs.lemmas.Bool.{cases_lt}
use Rattle.std.proofs.lemmas.List.{length-append, length-drop, nil_from_length}
use Rattle.std.proofs.lemmas.Option.{get_or_from_slice_get, slice_get-get_or}
use Rattle.em_script.specs.Session.{Session}
use Rattle.em_named.specs.Names.{named, names}
use Rattle.em_named.specs.Numbers.{above, end_of, line_of, number_in, number_of, performed_by}
use Rattle.em_named.specs.Place.{kept_of, place_of}
use Rattle.em_named.specs.declared.did.Did.{Did}
use Rattle.em_named.specs.declared.did.Did.TheVariants.{Performed, TookBack}
use Rattle.em_named.specs.declared.did.Name.{Name}
use Rattle.em_named.proofs.NameLaws.{drop-drop, get-drop, get-named, names-take}
use Rattle.em_named.proofs.NumberLaws.{Ends, above-front, above-line, above-none, all-fit, end-mono, end-next, falls, fit, line-ends, line-is}
use Rattle.em_named.proofs.PlaceLaws.{place-deeper, place-kept, place-past}
use Rattle.em_tape.specs.Tape.{Tape, IsNamed, IsNear, at_end, behind, event_at, event_of, near, standing, taken_back, there}
use Rattle.em_tape.proofs.TapeLaws.{past_back}

-- ---- no more stand than were performed

named-length : (line k : ℕ) → length (named line k) ≡ k
named-length line zero = refl
named-length line (suc k) = ap suc (named-length line k)

few-line : (k : ℕ) (did : List Did) (d : Did) → slice_get did k ≡ Some d → length (names (take k did)) ≤ end_of k did
    → length (names (take (suc k) did)) ≤ end_of (suc k) did
few-line k did (Performed count) at few =
    let more = ap length (names-take k did (Performed count) at) in
    let long = length-append (named (suc k) count) (names (take k did)) in
    let here = named-length (suc k) count in
    let end = end-next k did (Performed count) at in
    omega (arith, more, long, here, end)
few-line k did (TookBack count) at few =
    let less = ap length (names-take k did (TookBack count) at) in
    let long = length-drop count (names (take k did)) in
    let end = end-next k did (TookBack count) at in
    omega (arith, less, long, end)

pub names-few : (k : ℕ) (did : List Did) → k ≤ length did → length (names (take k did)) ≤ end_of k did
names-few zero did le = omega arith
names-few (suc k) did le =
    few-line k did (get_or did k (Performed 0)) (slice_get-get_or did k (Performed 0) (omega arith))
    (names-few k did (omega arith))

get-none : {X : Type 0} (xs : List X) (k : ℕ) → length xs ≤ k → slice_get xs k ≡ None
get-none [] k le = refl
get-none (x ∷ xs) zero le = absurd (omega arith)
get-none (x ∷ xs) (suc k) le = get-none xs k (omega arith)

pub none-stands : (whole back k : ℕ) (did : List Did) → whole ≤ length did → end_of whole did ≤ back + k
    → slice_get (drop back (names (take whole did))) k ≡ None
none-stands whole back k did within past =
    let few = names-few whole did within in
    get-drop back k (names (take whole did)) ∙ get-none (names (take whole did)) (back + k) (omega arith)

pub nil-stands : (whole back : ℕ) (did : List Did) → whole ≤ length did → end_of whole did ≤ back
    → drop back (names (take whole did)) ≡ []
nil-stands whole back did within past =
    let few = names-few whole did within in
    let none : length (drop back (names (take whole did))) ≡ 0 =
    omega (arith, length-drop back (names (take whole did))) in
    nil_from_length (drop back (names (take whole did))) none

-- behind the start nothing is left
nothing-left : (line depth : ℕ) (did : List Did) (d : Did) → slice_get did line ≡ Some d → suc line ≤ length did
    → ((deeper : ℕ) → end_of line did < deeper → (kept_of (take line did) deeper).whole ≡ 0)
    → end_of (suc line) did < depth → (kept_of (take (suc line) did) depth).whole ≡ 0
nothing-left line depth did (Performed count) at le before deep =
    let end = end-next line did (Performed count) at in
    let e : suc line - 1 ≡ line = omega arith in
    let is : get_or did (suc line - 1) (Performed 0) ≡ Performed count =
    ap (λ n. get_or did n (Performed 0)) e ∙ get_or_from_slice_get did line (Performed count) (Performed 0) at in
    ap (λ p. p.whole) (place-past (suc line) depth count did (Performed 0) (omega arith) le is (omega (arith, end)))
    ∙ ap (λ n. (kept_of (take n did) (depth - count)).whole) e ∙ before (depth - count) (omega (arith, end))
nothing-left line depth did (TookBack count) at le before deep =
    let end = end-next line did (TookBack count) at in
    let e : suc line - 1 ≡ line = omega arith in
    let is : get_or did (suc line - 1) (Performed 0) ≡ TookBack count =
    ap (λ n. get_or did n (Performed 0)) e ∙ get_or_from_slice_get did line (TookBack count) (Performed 0) at in
    ap (λ p. p.whole) (place-deeper (suc line) depth count did (Performed 0) (omega arith) le is (omega arith))
    ∙ ap (λ n. (kept_of (take n did) (depth + count)).whole) e ∙ before (depth + count) (omega (arith, end))

nothing-kept : (line depth : ℕ) (did : List Did) → line ≤ length did → end_of line did < depth
    → (kept_of (take line did) depth).whole ≡ 0
nothing-kept zero depth did le deep = refl
nothing-kept (suc line) depth did le deep =
    nothing-left line depth did (get_or did line (Performed 0)) (slice_get-get_or did line (Performed 0) (omega arith)) le
    (λ deeper more. nothing-kept line deeper did (omega arith) more) deep

pub nothing-whole : (line depth : ℕ) (did : List Did) → line ≤ length did → end_of line did < depth
    → (place_of (take line did) depth).whole ≡ 0
nothing-whole line depth did le deep =
    ap (λ p. p.whole) (place-kept (take line did) depth (omega arith)) ∙ nothing-kept line depth did le deep

-- ---- further back

-- so many steps further back
pub event-back : (k taken : ℕ) (old new : Tape) → new ≡ record old { back = old.back + taken; session = new.session }
    → event_at k new ≡ event_at (taken + k) old
event-back k taken old new is =
    let s = new.session in
    let all = names (take old.whole old.did) in
    ap (event_at k) is
    ∙ ap (λ l. number_in old.did (slice_get l k)) (sym (drop-drop old.back taken all))
    ∙ ap (number_in old.did) (get-drop taken k (drop old.back all))

-- ---- to an event

number-at : (line i count : ℕ) (did : List Did) (d : Did) → slice_get did line ≡ Some d → performed_by d ≡ count
    → i < count
    → number_in did (slice_get (names (take (suc line) did)) i) ≡ end_of line did + (count - i)
number-at line i count did (Performed k) at is lt =
    let e : suc line - 1 ≡ line = omega arith in
    ap (λ l. number_in did (slice_get l i)) (names-take line did (Performed k) at)
    ∙ ap (number_in did) (get-named (suc line) k i (names (take line did)) (omega arith))
    ∙ ap (λ n. end_of n did + (k - i)) e ∙ ap (λ n. end_of line did + (n - i)) is
number-at line i count did (TookBack k) at is lt = absurd (omega arith)

below-number : (n line i : ℕ) (did : List Did) (one : Name) → line ≤ length did
    → slice_get (names (take line did)) i ≡ Some one → end_of line did < n → number_of did one ≤ n
below-number n line i did one le is before =
    let held = all-fit line did le i one is in
    let upto = end-mono one.line line did held.last in
    omega (arith, held.held, upto)

above-at : (n line : ℕ) (did : List Did) (d : Did) → slice_get did line ≡ Some d → line ≤ length did
    → end_of line did < n → n ≤ end_of line did + performed_by d
    → above n did (names (take (suc line) did)) ≡ end_of line did + performed_by d - n
above-at n line did (Performed k) at le before behind =
    let none = above-none n did (names (take line did)) (λ i one is. below-number n line i did one le is before) in
    let here = above-line n line k did (names (take line did)) in
    let all = ap (above n did) (names-take line did (Performed k) at) in
    omega (arith, none, here, all)
above-at n line did (TookBack k) at le before behind = absurd (omega arith)

-- behind the line of an event, as many steps back as stand above it lead to it
back-to : (e count n : ℕ) → e < n → n ≤ e + count → e + (count - (e + count - n)) ≡ n
back-to e count n before behind = omega arith

there-at : (n line : ℕ) (did : List Did) → Ends n (suc line) did → suc line ≤ length did
    → number_in did (slice_get (names (take (suc line) did)) (above n did (names (take (suc line) did)))) ≡ n
there-at n line did ends le =
    let d = get_or did line (Performed 0) in
    let at = slice_get-get_or did line (Performed 0) (omega arith) in
    let end = end-next line did d at in
    let e : suc line - 1 ≡ line = omega arith in
    let before : end_of line did < n = subst (λ k. end_of k did < n) e ends.before in
    let count = performed_by d in
    let up = above-at n line did d at (omega arith) before (omega (arith, ends.behind, end)) in
    ap (λ i. number_in did (slice_get (names (take (suc line) did)) i)) up
    ∙ number-at line (end_of line did + count - n) count did d at refl (omega (arith, before, ends.behind, end))
    ∙ back-to (end_of line did) count n before (omega (arith, ends.behind, end))

pub at-line : (n line : ℕ) (did : List Did) → Ends n line did → line ≤ length did
    → number_in did (slice_get (names (take line did)) (above n did (names (take line did)))) ≡ n
at-line n zero did ends le = absurd (omega (arith, ends.first))
at-line n (suc line) did ends le = there-at n line did ends le

pub record Gone (event : ℕ) (mid new : Tape) : Type 0 where
  pub taken : ℕ
  pub within : mid.whole ≤ length mid.did
  pub whole : mid.whole ≡ line_of event mid.did
  pub back : mid.back ≡ 0
  pub count : taken ≡ min (behind event mid) (length mid.session.machine.past)
  pub is : new ≡ record mid { back = mid.back + taken; session = taken_back taken mid.session }

first-event : (taken : ℕ) (mid new : Tape) → new ≡ record mid { back = mid.back + taken; session = taken_back taken mid.session }
    → event_of new ≡ event_at taken mid
first-event taken mid new is =
    let e : taken + 0 ≡ taken = omega arith in
    let same : new ≡ record mid { back = mid.back + taken; session = new.session } =
    is ∙ ap (λ (s : Session). record mid { back = mid.back + taken; session = s }) (sym (ap (λ (t : Tape). t.session) is)) in
    event-back 0 taken mid new same ∙ ap (λ n. event_at n mid) e

-- not so far as the journal reaches
unreached : (event : ℕ) (mid new : Tape) (gone : Gone event mid new) → length mid.session.machine.past < behind event mid
    → IsNear event new
unreached event mid new gone less =
    let taken = gone.taken in
    let all : taken ≡ length mid.session.machine.past = omega (arith, gone.count) in
    let left = past_back taken mid.session in
    let none : length (taken_back taken mid.session).machine.past ≡ 0 = omega arith in
    let past : new.session.machine.past ≡ [] =
    ap (λ (t : Tape). t.session.machine.past) gone.is ∙ nil_from_length (taken_back taken mid.session).machine.past none in
    let front = above-front event taken mid.did (standing mid) (falls mid.whole mid.back mid.did gone.within)
    (omega arith) in
    let whole : new.whole ≡ line_of event new.did =
    ap (λ (t : Tape). t.whole) gone.is ∙ gone.whole ∙ ap (line_of event) (sym (ap (λ (t : Tape). t.did) gone.is)) in
    near whole past (subst (λ n. event < n) (sym (first-event taken mid new gone.is)) front)

-- behind the last line
at-last : (event : ℕ) (mid new : Tape) (gone : Gone event mid new) → end_of (length mid.did) mid.did < event
    → IsNear event new
at-last event mid new gone past =
    let did = mid.did in
    let last : length did ≡ line_of event did = line-is event (length did) did (omega arith)
    (λ some.
    let upto = end-mono (length did - 1) (length did) did (omega arith) in
    omega arith) (λ more. absurd (omega arith)) in
    let whole : mid.whole ≡ length did = gone.whole ∙ sym last in
    let none : behind event mid ≡ 0 = above-none event did (standing mid) (λ i one at.
    let held = fit mid.whole mid.back did gone.within i one at in
    let upto = end-mono one.line (length did) did (omega (arith, held.last)) in
    omega (arith, held.held, upto)) in
    let still : gone.taken ≡ 0 = omega (arith, gone.count) in
    let back : mid.back + gone.taken ≡ 0 = omega (arith, gone.back) in
    let here : end_of mid.whole did < event = subst (λ n. end_of n did < event) (sym whole) past in
    subst (IsNear event) (sym gone.is) (at_end whole back here)

-- at the start
at-start : (mid new : Tape) (gone : Gone 0 mid new) → IsNear 0 new
at-start mid new gone =
    let start : mid.whole ≡ 0 = gone.whole in
    let nothing : standing mid ≡ [] = nil-stands mid.whole mid.back mid.did gone.within
    (subst (λ n. end_of n mid.did ≤ mid.back) (sym start) (omega arith)) in
    there (first-event gone.taken mid new gone.is ∙ ap (λ l. number_in mid.did (slice_get l gone.taken)) nothing)

-- at the event
at-event : (event : ℕ) (mid new : Tape) (gone : Gone event mid new) → 0 < event → event ≤ end_of (length mid.did) mid.did
    → behind event mid ≤ length mid.session.machine.past → IsNear event new
at-event event mid new gone some le reach =
    let did = mid.did in
    let ends : Ends event mid.whole did = subst (λ n. Ends event n did) (sym gone.whole) (line-ends event did some le) in
    let all : standing mid ≡ names (take mid.whole did) = ap (λ n. drop n (names (take mid.whole did))) gone.back in
    let steps : gone.taken ≡ behind event mid = omega (arith, gone.count) in
    there (first-event gone.taken mid new gone.is ∙ ap (λ n. event_at n mid) steps
    ∙ ap (λ l. number_in did (slice_get l (above event did l))) all ∙ at-line event mid.whole did ends gone.within)

from-start : (event : ℕ) (mid new : Tape) (gone : Gone event mid new) → event ≤ end_of (length mid.did) mid.did
    → behind event mid ≤ length mid.session.machine.past → IsNear event new
from-start zero mid new gone held reach = at-start mid new gone
from-start (suc n) mid new gone held reach = at-event (suc n) mid new gone (omega arith) held reach

pub gone-near : (event : ℕ) (mid new : Tape) → Gone event mid new → IsNear event new
gone-near event mid new gone = elim (cases_lt (length mid.session.machine.past) (behind event mid)) [
  | inl less ↦ unreached event mid new gone less
  | inr reach ↦ elim (cases_lt (end_of (length mid.did) mid.did) event) [
    | inl past ↦ at-last event mid new gone past
    | inr held ↦ from-start event mid new gone held reach
  ]
]

-- ---- a name that stands

pub named_so : (tape : Tape) (k : ℕ) (one : Name) → tape.whole ≤ length tape.did
    → ((n : ℕ) → end_of n tape.did < 2 ^ 63) → slice_get (standing tape) k ≡ Some one → IsNamed tape one
named_so tape k one within room at =
    let it = fit tape.whole tape.back tape.did within k one at in
    let end = room one.line in
    record {
      first = it.first;
      last = it.last;
      known = within;
      small = omega (arith, it.held, end);
    }

pub some_named : (tape : Tape) (k : ℕ) (found : Option Name) → found ≡ slice_get (standing tape) k
    → tape.whole ≤ length tape.did → ((n : ℕ) → end_of n tape.did < 2 ^ 63) → IfSome found (IsNamed tape)
some_named tape k None is within room = tt
some_named tape k (Some one) is within room = named_so tape k one within room (sym is)
