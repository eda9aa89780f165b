-- Steps back: how many a run took, and where they lead.
use Rattle.std.proofs.Common.{◌≡◌, ℕ, zero, suc, ◌+◌, ◌-◌, ◌<◌, ◌≤◌, List, [], ◌∷◌, ◌++◌, length, refl, ap, ◌∙◌}
use Rattle.std.proofs.Common.{arith, inl, inr, subst}
use Rattle.std.specs.Prelude.{if◌then◌else◌, nat_lt, replicate}
use Rattle.std.proofs.lemmas.Bool.{cases_lt, le-ltb, lt-ltb}
use Rattle.em_journal.specs.View.{View, after_back, after_backs}
use Rattle.em_journal.specs.History.{Call, Run, goes_back, is_empty}
use Rattle.em_journal.proofs.BackLaws.{past_left}
use Rattle.em_run.specs.KeptRun.{steps_back}

pub backs_add : (a b : ℕ) (v : View) → after_backs (a + b) v ≡ after_backs b (after_backs a v)
backs_add zero b v =
    let e : 0 + b ≡ b = omega arith in
    ap (λ n. after_backs n v) e
backs_add (suc a) b v =
    let e : suc a + b ≡ suc (a + b) = omega arith in
    ap (λ n. after_backs n v) e ∙ backs_add a b (after_back v)

-- a run that begins with so many steps back
backs_done : (n : ℕ) (rest : List Call) (v w : View) → Run v (replicate n goes_back ++ rest) w
    → (n ≤ length v.past) × Run (after_backs n v) rest w
backs_done zero rest v w run = (omega arith, run)
backs_done (suc n) rest v w run =
    let m = run.0 in
    let some : 0 < length v.past = run.1.0 in
    let is : m ≡ after_back v = run.1.1 in
    let more = backs_done n rest m w run.2 in
    let fewer : length m.past ≡ length v.past - 1 = past_left 1 v m is in
    (omega (arith, some, fewer, more.0), subst (λ x. Run (after_backs n x) rest w) is more.1)

-- what steps back did: so many were taken, and where these are fewer than were asked for, no more were left
pub record WentBack (asked taken : ℕ) (v w : View) : Type 0 where
  pub within : taken ≤ length v.past
  pub leads : w ≡ after_backs taken v
  pub none : taken < asked → w.past ≡ []

pub went : (asked taken : ℕ) (v w : View) → Run v (steps_back asked taken) w → WentBack asked taken v w
went asked taken v w run = elim (cases_lt taken asked) [
  | inl fewer ↦
      let rest : (if nat_lt taken asked then is_empty ∷ [] else []) ≡ is_empty ∷ [] = rw (lt-ltb taken asked fewer) refl in
      let done =
      backs_done taken (is_empty ∷ []) v w (subst (λ l. Run v (replicate taken goes_back ++ l) w) rest run) in
      let end = done.1 in
      let leads : w ≡ after_backs taken v = end.2 ∙ end.1.1 in
      record { within = done.0; leads = leads; none = λ _. ap (λ x. x.past) leads ∙ end.1.0 }
  | inr enough ↦
      let rest : (if nat_lt taken asked then is_empty ∷ [] else []) ≡ [] = rw (le-ltb taken asked enough) refl in
      let done = backs_done taken [] v w (subst (λ l. Run v (replicate taken goes_back ++ l) w) rest run) in
      record { within = done.0; leads = done.1; none = λ fewer. absurd (omega (arith, fewer, enough)) }
]
