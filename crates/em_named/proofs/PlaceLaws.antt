-- The same place with fewer lines.
use Rattle.std.proofs.Common.{◌≡◌, ℕ, ◌+◌, ◌-◌, ◌<◌, ◌≤◌, zero, suc, List, [], ◌∷◌, length, take, Some}
use Rattle.std.proofs.Common.{refl, sym, ap, ◌∙◌, arith, inl, inr}
use Rattle.std.specs.Prelude.{get_or, reverse, if◌then◌else◌}
use Rattle.std.proofs.lemmas.Bool.{cases_lt, le-leb, lt-leb}
use Rattle.std.proofs.lemmas.List.{reverse-append, length-reverse, length-take-le}
use Rattle.std.proofs.lemmas.Option.{slice_get-get_or}
use Rattle.em_named.specs.Place.{kept_of, place, place_of, without_ahead}
use Rattle.em_named.specs.declared.did.Did.{Did}
use Rattle.em_named.specs.declared.did.Did.TheVariants.{Performed, TookBack}
use Rattle.em_named.proofs.NameLaws.{take-suc}

-- behind a line of which so much is known
kept-at : (line depth : ℕ) (did : List Did) (d other : Did) → 0 < line → line ≤ length did
    → get_or did (line - 1) other ≡ d
    → kept_of (take line did) depth ≡ without_ahead (d ∷ reverse (take (line - 1) did)) depth
kept-at line depth did d other some le is =
    let e : suc (line - 1) ≡ line = omega arith in
    let more = take-suc (line - 1) did d (slice_get-get_or did (line - 1) other (omega arith) ∙ ap Some is) in
    ap (λ n. kept_of (take n did) depth) (sym e) ∙ ap (λ l. kept_of l depth) more
    ∙ ap (λ l. without_ahead l depth) (reverse-append (take (line - 1) did) (d ∷ []))

older-length : (line : ℕ) (did : List Did) → 0 < line → line ≤ length did
    → suc (length (reverse (take (line - 1) did))) ≡ line
older-length line did some le =
    omega (arith, length-reverse (take (line - 1) did), length-take-le (line - 1) did (omega arith))

performed-stop : (older : List Did) (depth count : ℕ) → depth < count
    → without_ahead (Performed count ∷ older) depth ≡ place (suc (length older)) depth
performed-stop older depth count lt =
    ap (λ b. if b then without_ahead older (depth - count) else place (suc (length older)) depth) (lt-leb count depth lt)

performed-past : (older : List Did) (depth count : ℕ) → count ≤ depth
    → without_ahead (Performed count ∷ older) depth ≡ without_ahead older (depth - count)
performed-past older depth count le =
    ap (λ b. if b then without_ahead older (depth - count) else place (suc (length older)) depth) (le-leb count depth le)

-- not all that the last line performed lies ahead
pub place-stop : (line depth count : ℕ) (did : List Did) (other : Did) → 0 < line → line ≤ length did
    → get_or did (line - 1) other ≡ Performed count → depth < count
    → kept_of (take line did) depth ≡ place line depth
place-stop line depth count did other some le is lt =
    kept-at line depth did (Performed count) other some le is
    ∙ performed-stop (reverse (take (line - 1) did)) depth count lt
    ∙ ap (λ n. place n depth) (older-length line did some le)

-- all that it performed lies ahead
pub place-past : (line depth count : ℕ) (did : List Did) (other : Did) → 0 < line → line ≤ length did
    → get_or did (line - 1) other ≡ Performed count → count ≤ depth
    → kept_of (take line did) depth ≡ kept_of (take (line - 1) did) (depth - count)
place-past line depth count did other some le is past =
    kept-at line depth did (Performed count) other some le is
    ∙ performed-past (reverse (take (line - 1) did)) depth count past

-- it took events back, and none lies ahead
pub place-still : (line depth count : ℕ) (did : List Did) (other : Did) → 0 < line → line ≤ length did
    → get_or did (line - 1) other ≡ TookBack count → depth ≡ 0
    → kept_of (take line did) depth ≡ place line depth
place-still line depth count did other some le is none =
    kept-at line depth did (TookBack count) other some le is
    ∙ ap (without_ahead (TookBack count ∷ reverse (take (line - 1) did))) none
    ∙ ap (λ n. place n 0) (older-length line did some le) ∙ ap (place line) (sym none)

-- it took events back, and some lie ahead
pub place-deeper : (line depth count : ℕ) (did : List Did) (other : Did) → 0 < line → line ≤ length did
    → get_or did (line - 1) other ≡ TookBack count → 0 < depth
    → kept_of (take line did) depth ≡ kept_of (take (line - 1) did) (depth + count)
place-deeper line zero count did other some le is deep = absurd (omega arith)
place-deeper line (suc depth) count did other some le is deep =
    kept-at line (suc depth) did (TookBack count) other some le is

-- no line is added
within-ahead : (older : List Did) (depth : ℕ) → (without_ahead older depth).whole ≤ length older
within-ahead [] depth = omega arith
within-ahead (Performed count ∷ older) depth = elim (cases_lt depth count) [
  | inl stops ↦ omega (arith, ap (λ p. p.whole) (performed-stop older depth count stops))
  | inr past ↦
      let more = within-ahead older (depth - count) in
      omega (arith, ap (λ p. p.whole) (performed-past older depth count past), more)
]
within-ahead (TookBack count ∷ older) zero = omega arith
within-ahead (TookBack count ∷ older) (suc depth) =
    let more = within-ahead older (suc depth + count) in
    omega (arith, more)

pub kept-within : (did : List Did) (depth : ℕ) → (kept_of did depth).whole ≤ length did
kept-within did depth =
    let more = within-ahead (reverse did) depth in
    omega (arith, more, length-reverse did)

-- where events are taken back
pub place-kept : (did : List Did) (back : ℕ) → 0 < back → place_of did back ≡ kept_of did back
place-kept did zero some = absurd (omega arith)
place-kept did (suc back) some = refl
