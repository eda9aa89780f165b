-- Descriptors after a part of them was written.
use Rattle.std.proofs.Common.{◌≡◌, ◌∙◌, ℕ, ◌+◌, ◌/◌, ◌%◌, ◌≤◌, ◌==◌, ◌&&◌, true, false, List, [], ◌∷◌}
use Rattle.std.proofs.Common.{◌++◌}
use Rattle.std.proofs.Common.{length, take, drop, ap, arith}
use Rattle.std.specs.Prelude.{nat_lt, nat_le, slice_index}
use Rattle.std.proofs.lemmas.Bool.Decides.{nat_tests}
use Rattle.std.proofs.lemmas.List.{length-take-le, drop-append-le, drop-take, drop_at, get_or-append_right, length-drop}
use Rattle.byteorder.specs.Endian.{little_number}
use Rattle.byteorder.specs.Numbers.{little_from-append, little_from-take}
use Rattle.em_mem.specs.Memory.{put}
use Rattle.em_driver.specs.Descriptor.{is_done, is_last, is_whole, length_of}
use Rattle.em_driver.specs.Driven.{IsUsualLength}

-- a write behind octet 7 leaves the buffer's address
pub address_stays : (d : List ℕ) (o : ℕ) (x : List ℕ) → 8 ≤ o → o ≤ length d
    → little_number 8 (put d o x) ≡ little_number 8 d
address_stays d o x behind inside =
    let front = length-take-le o d inside in
    little_from-append 8 (take o d) (x ++ drop (o + length x) d) (omega (arith, front))
    ∙ little_from-take 0 8 o d behind

-- octets 8 to 15 of a filled descriptor
abbrev pub filled_back : ℕ → List ℕ
filled_back n = n % 256 ∷ n / 256 ∷ 0 ∷ 0 ∷ 0x07 ∷ 0 ∷ 0 ∷ 0 ∷ []

pub filled_length : (d : List ℕ) (n : ℕ) → length d ≡ 16 → length_of (put d 8 (filled_back n)) ≡ n
unfolding length_of
filled_length d n long =
    let front = length-take-le 8 d (omega (arith, long)) in
    let back : drop 8 (put d 8 (filled_back n)) ≡ filled_back n ++ drop 16 d
    = drop_at (take 8 d) (filled_back n ++ drop 16 d) 8 front in
    ap (little_number 2) back ∙ omega arith

pub filled_mark : (d : List ℕ) (n : ℕ) → length d ≡ 16 → slice_index (put d 8 (filled_back n)) 12 ≡ 0x07
filled_mark d n long =
    get_or-append_right (take 8 d) (filled_back n ++ drop 16 d) 8 12 0 (length-take-le 8 d (omega (arith, long)))
    (omega arith)

-- a write of the status octet leaves the length
pub status_length : (d : List ℕ) (x : ℕ) → length d ≡ 16 → length_of (put d 12 (x ∷ [])) ≡ length_of d
unfolding length_of
status_length d x long =
    let front = length-take-le 12 d (omega (arith, long)) in
    let rest : List ℕ = x ∷ drop 13 d in
    let mid : length (take 4 (drop 8 d)) ≡ 4 = length-take-le 4 (drop 8 d) (omega (arith, length-drop 8 d, long)) in
    let cut : drop 8 (put d 12 (x ∷ [])) ≡ take 4 (drop 8 d) ++ rest
    = drop-append-le 8 (take 12 d) rest (omega (arith, front)) ∙ ap (λ y. y ++ rest) (drop-take 8 4 d) in
    ap (little_number 2) cut
    ∙ little_from-append 2 (take 4 (drop 8 d)) rest (omega (arith, mid))
    ∙ little_from-take 0 2 4 (drop 8 d) (omega arith)

-- a status octet of 0 has DD clear
pub cleared_mark : (d : List ℕ) → length d ≡ 16 → is_done (put d 12 (0 ∷ [])) ≡ false
unfolding is_done
cleared_mark d long =
    ap (λ v. v % 2 == 1)
    (get_or-append_right (take 12 d) (0 ∷ drop 13 d) 12 12 0 (length-take-le 12 d (omega (arith, long))) (omega arith))

-- a status of 07h has DD and EOP
pub marked_done : (d : List ℕ) → slice_index d 12 ≡ 0x07 → is_done d ≡ true
unfolding is_done
marked_done d is = ap (λ v. v % 2 == 1) is

marked_last : (d : List ℕ) → slice_index d 12 ≡ 0x07 → is_last d ≡ true
unfolding is_last
marked_last d is = ap (λ v. v / 2 % 2 == 1) is

pub marked_whole : (d : List ℕ) → slice_index d 12 ≡ 0x07 → IsUsualLength (length_of d) → is_whole d ≡ true
marked_whole d is usual =
    let low : nat_lt 0 (length_of d) ≡ true = grind (arith, nat_tests, usual.least) in
    let high : nat_le (length_of d) 2048 ≡ true = grind (arith, nat_tests, usual.most) in
    λ i. marked_last d is i && (low i && high i)
