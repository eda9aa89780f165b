-- What was seen in the states that a search went through.
use Rattle.std.proofs.Common.{◌≡◌, ℕ, ◌+◌, ◌-◌, ◌<◌, ◌≤◌, ◌⊎◌, inl, inr, Some, None, refl, sym, ap, ◌∙◌}
use Rattle.std.proofs.Common.{subst, arith, length}
use Rattle.std.specs.Prelude.{◌≢◌, slice_get}
use Rattle.std.proofs.lemmas.Bool.Decides.{nat_tests}
use Rattle.std.proofs.lemmas.List.{length-map}
use Rattle.std.proofs.lemmas.Option.{slice_get_within, slice_get_past}
use Rattle.em_journal.specs.View.{View, states}
use Rattle.em_watch.specs.Change.{SeesSame, IsNextChange}
use Rattle.em_watch.specs.Traced.{IsTraced, traced, shown, LeadsBack, ChangesNext}
use Rattle.em_watch.specs.Watching.{sight, sights}
use Rattle.em_watch.specs.declared.change.Change.{Change}
use Rattle.em_watch.specs.declared.watch.Watch.{Watch}
use Rattle.em_watch.specs.declared.watch.Sight.{Sight}
use Rattle.em_watch.specs.declared.traced.Traced.{Traced}
use Rattle.em_watch.proofs.TracedLaws.{seen_there}

some_is : {A : Type 0} (x y : A) → Some x ≡ Some y → x ≡ y
some_is x y e = cc

-- where two of them show the same, the same is seen
pub same_there : (w : Watch) (v : View) (i j : ℕ) (t u : Traced) → IsTraced w v i t → IsTraced w v j u
    → shown t ≡ shown u → SeesSame w v i j
same_there w v i j t u is at same = seen_there w v i t is ∙ ap Some same ∙ sym (seen_there w v j u at)

below_or_next : (i k : ℕ) → i ≤ k + 1 → (i ≤ k) ⊎ (i ≡ k + 1)
below_or_next i k l = grind (arith, nat_tests)

-- one step more shows the same
pub same_since : (w : Watch) (v : View) (from k : ℕ)
    → ((i : ℕ) → from ≤ i → i ≤ k → SeesSame w v i from) → SeesSame w v (k + 1) from
    → (i : ℕ) → from ≤ i → i ≤ k + 1 → SeesSame w v i from
same_since w v from k since here i l m =
    elim (below_or_next i k m) [
      | inl le ↦ since i l le
      | inr e ↦ subst (λ n. SeesSame w v n from) (sym e) here
    ]

-- one step more shows another
pub changed : (w : Watch) (v : View) (from k : ℕ) (t u : Traced) (seen : Sight) → from ≤ k
    → IsTraced w v from t → ((i : ℕ) → from ≤ i → i ≤ k → SeesSame w v i from) → IsTraced w v (k + 1) u
    → seen ≡ shown u → seen ≢ shown t → IsNextChange w v from (record { back = k + 1; before = seen })
changed w v from k t u seen l is since at same other = record {
  older = omega arith;
  before = seen_there w v (k + 1) u at ∙ ap Some (sym same);
  another = λ e. other (some_is seen (shown t) (sym e ∙ seen_there w v from t is));
  since = λ i n m. since i n (omega arith);
}

-- ---- of whatever is watched

pub same_more : (v : View) (from k : ℕ) (t u : Traced) → LeadsBack v from t (k + 1) u → shown u ≡ shown t
    → ((w : Watch) → IsTraced w v from t → (i : ℕ) → from ≤ i → i ≤ k → SeesSame w v i from)
    → (w : Watch) → IsTraced w v from t → (i : ℕ) → from ≤ i → i ≤ k + 1 → SeesSame w v i from
same_more v from k t u back same since w is =
    same_since w v from k (since w is) (same_there w v (k + 1) from u t (back w is) is same)

pub changes_next : (v : View) (from k : ℕ) (t u : Traced) → from ≤ k → LeadsBack v from t (k + 1) u
    → shown u ≢ shown t
    → ((w : Watch) → IsTraced w v from t → (i : ℕ) → from ≤ i → i ≤ k → SeesSame w v i from)
    → ChangesNext v from t (k + 1) u
changes_next v from k t u l back other since w is =
    changed w v from k t u (shown u) l is (since w is) (back w is) refl other

-- each change leaves fewer
pub fewer_left : (w : Watch) (v : View) (from : ℕ) (change : Change) → IsNextChange w v from change
    → length v.past - change.back < length v.past - from
fewer_left w v from change is =
    let there = slice_get_within (sights w v) change.back change.before is.before in
    let all = length-map (states v) (sight w) in
    omega (arith, is.older)

-- ---- so many steps back from now

pub seen_from_now : (w : Watch) (v : View) (back : ℕ) (now t : Traced) (seen : Sight) → now ≡ traced w v.present
    → LeadsBack v 0 now back t → seen ≡ shown t → Some seen ≡ slice_get (sights w v) back
seen_from_now w v back now t seen is leads same =
    ap Some same ∙ sym (seen_there w v back t (leads w (ap Some (sym is))))

pub not_seen : (w : Watch) (v : View) (back : ℕ) → length v.past < back → None ≡ slice_get (sights w v) back
not_seen w v back past =
    sym (slice_get_past (sights w v) back (omega (arith, length-map (states v) (sight w))))
