-- A read or a write that goes on by one piece.
use Rattle.std.proofs.Common.{
  ◌≡◌,
  ℕ,
  ◌+◌,
  ◌≤◌,
  List,
  ◌++◌,
  length,
  take,
  drop,
  sym,
  ap,
  ◌∙◌,
  arith,
  length-drop,
  take-add,
}
use Rattle.std.proofs.lemmas.List.{length-take-le, drop-drop}
use Rattle.std.proofs.lemmas.Slice.{take-put_mid, drop-put_mid}
use borrow.Rule.Slice.PartMut.{put_mid}
use Rattle.em_mem.specs.Memory.{EndsIn, part, put}
use Rattle.em_mem.proofs.PutLaws.{put-put, part_past-put, part-append}

-- a piece of old octets comes after those read so far
pub read_step : (m : List ℕ) (a done count k : ℕ) (out new : List ℕ) → done ≤ length out
    → take done out ≡ part m a done → length new ≡ count → new ≡ part m (a + done) count
    → take (done + count) (put_mid done k out new) ≡ part m a (done + count)
read_step m a done count k out new l so_far size is =
    take-put_mid done k out new (done + count) (omega arith) l ∙ (λ i. so_far i ++ is i) ∙ part-append m a done count

-- a piece of d is written after those written so far
pub wrote_step : (m n w : List ℕ) (a done count : ℕ) (d piece : List ℕ) → n ≡ put m a (take done d)
    → piece ≡ take count (drop done d) → w ≡ put n (a + done) piece → done + count ≤ length d
    → EndsIn m a (length d) → w ≡ put m a (take (done + count) d)
wrote_step m n w a done count d piece so_far is wrote l held =
    let first : length (take done d) ≡ done = length-take-le done d (omega arith) in
    let second : length (take count (drop done d)) ≡ count = length-take-le count (drop done d)
    (omega (arith, length-drop done d)) in
    let at : a + done ≡ a + length (take done d) = omega arith in
    wrote ∙ (λ i. put (so_far i) (at i) (is i)) ∙ put-put m a (take done d) (take count (drop done d)) (omega arith)
    ∙ ap (put m a) (sym (take-add done count d))

-- the old octets of a piece are not those written so far
pub old_step : (m n : List ℕ) (a done count : ℕ) (d new : List ℕ) → n ≡ put m a (take done d)
    → new ≡ part n (a + done) count → done ≤ length d → EndsIn m a (length d) → new ≡ part m (a + done) count
old_step m n a done count d new so_far is l held =
    let first : length (take done d) ≡ done = length-take-le done d l in
    let at : a + done ≡ a + length (take done d) = omega arith in
    is ∙ (λ i. part (so_far i) (at i) count) ∙ part_past-put m a (take done d) count (omega arith)
    ∙ ap (λ k. part m k count) (sym at)

-- what is still to be written stays
pub rest_step : (done count k : ℕ) (s d new : List ℕ) → drop done s ≡ drop done d → done ≤ length s → k ≡ count
    → length new ≡ k → drop (done + count) (put_mid done k s new) ≡ drop (done + count) d
rest_step done count k s d new rest l same size =
    drop-put_mid done k s new (done + count) (omega arith) l size ∙ sym (drop-drop count done s)
    ∙ ap (drop count) rest ∙ drop-drop count done d
