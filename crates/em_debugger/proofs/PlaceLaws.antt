-- The line where a place lies.
use Rattle.std.proofs.Common.{◌≡◌, ◌∙◌, ℕ, ◌≤◌, zero, suc, List, length, take, ap, arith}
use Rattle.std.proofs.lemmas.List.{length-take, length-take-le}
use Rattle.em_named.specs.Place.{place_of}
use Rattle.em_named.specs.declared.did.Did.{Did}
use Rattle.em_named.proofs.PlaceLaws.{kept-within}
use Rattle.em_tape.specs.Tape.{Tape, line_here}

place-within : (did : List Did) (back : ℕ) → (place_of did back).whole ≤ length did
place-within did zero = let e : length did ≤ length did = omega arith in e
place-within did (suc back) = kept-within did (suc back)

-- it is one of those that were performed so far, and at the place
pub line_here-within : (tape : Tape) → (line_here tape ≤ length tape.did) × (line_here tape ≤ tape.whole)
line_here-within tape =
    let fewer : line_here tape ≤ length (take tape.whole tape.did) =
    place-within (take tape.whole tape.did) tape.back in
    let most = length-take tape.whole tape.did in
    (omega (arith, fewer, most), omega (arith, fewer, most))

-- where no event is taken back
pub line_here-whole : (tape : Tape) → tape.whole ≤ length tape.did → tape.back ≡ 0 → line_here tape ≡ tape.whole
line_here-whole tape le none =
    ap (λ b. (place_of (take tape.whole tape.did) b).whole) none ∙ length-take-le tape.whole tape.did le
