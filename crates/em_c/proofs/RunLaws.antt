-- An event that is performed again and again.
use Rattle.std.proofs.Common.{◌≡◌, ℕ, ◌+◌, ◌≤◌, zero, suc, refl, subst, arith, false}
use Rattle.em_step.specs.Event.{Event}
use Rattle.em_step.specs.declared.event.Answer.{Answer}
use Rattle.em_c.specs.Run.{Repeats, is_idle}
use Rattle.em_c.specs.Tagged.{Performs}
use Rattle.em_c.specs.declared.tagged.Tagged.{Tagged}

one_more : (k : ℕ) (event : Event) (t u w : Tagged) (answer : Answer) → Repeats k event t u
    → Performs u event answer w → is_idle answer ≡ false → Repeats (suc k) event t w
one_more zero event t u w answer same performs busy =
    (w, answer, subst (λ x. Performs x event answer w) same performs, busy, refl)
one_more (suc k) event t u w answer (m, first, performed, was_busy, rest) performs busy =
    (m, first, performed, was_busy, one_more k event m u w answer rest performs busy)

-- k times, and once more
pub repeats_more : (k : ℕ) (event : Event) (t u w : Tagged) (answer : Answer) → Repeats k event t u
    → Performs u event answer w → is_idle answer ≡ false → Repeats (k + 1) event t w
repeats_more k event t u w answer repeats performs busy =
    let next : suc k ≡ k + 1 = omega arith in
    subst (λ n. Repeats n event t w) next (one_more k event t u w answer repeats performs busy)

-- as often as there are rounds
pub repeats_all : (k n : ℕ) (event : Event) (t u : Tagged) → Repeats k event t u → k ≤ n → n ≤ k
    → Repeats n event t u
repeats_all k n event t u repeats l r =
    let same : k ≡ n = omega arith in
    subst (λ m. Repeats m event t u) same repeats
