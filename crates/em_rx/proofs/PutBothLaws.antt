-- Two writes into a ring, one behind the other, are one.
use Rattle.std.proofs.Common.{◌≡◌, ℕ, ◌+◌, ◌≤◌, ◌<◌, List, ◌++◌, length, drop, refl, sym, ap, ◌∙◌, arith}
use Rattle.std.proofs.Common.{length-append, length-drop}
use Rattle.std.proofs.lemmas.List.{take_at, drop_at, drop-drop, append_assoc}
use Rattle.em_mem.specs.Memory.{put}
use Rattle.em_mem.specs.Ring.{ring_put, turn, unturn, wrap}
use Rattle.em_mem.proofs.RingLaws.{length-ring_put, length-turn, turn-ring_put, turn-unturn, unturn-turn}

module _ (xs : List ℕ) (k : ℕ) (d e : List ℕ) (inside : k < length xs) (room : length d + length e ≤ length xs) where
  abbrev T : List ℕ
  T = turn k xs

  abbrev F : List ℕ
  F = d ++ drop (length d) T

  length-F : length F ≡ length xs
  length-F =
      omega (arith, length-append d (drop (length d) T), length-drop (length d) T, length-turn k xs, room)

  -- the second write behind the first
  both_put : put F (length d) e ≡ (d ++ e) ++ drop (length (d ++ e)) T
  both_put =
      let rest : drop (length d + length e) F ≡ drop (length (d ++ e)) T
      = sym (drop-drop (length e) (length d) F)
      ∙ ap (drop (length e)) (drop_at d (drop (length d) T) (length d) refl)
      ∙ drop-drop (length e) (length d) T
      ∙ ap (λ (n : ℕ). drop n T) (sym (length-append d e)) in
      (λ i. take_at d (drop (length d) T) (length d) refl i ++ (e ++ rest i))
      ∙ sym (append_assoc d e (drop (length (d ++ e)) T))

  pub ring_put-append : 0 < length e →
      ring_put (ring_put xs k d) (wrap (length xs) (k + length d)) e ≡ ring_put xs k (d ++ e)
  ring_put-append some =
      let X : List ℕ = ring_put xs k d in
      let Y : List ℕ = ring_put X (wrap (length xs) (k + length d)) e in
      let lx : length X ≡ length xs = length-ring_put xs k d (omega (arith, room)) in
      let ly : length Y ≡ length X
      = length-ring_put X (wrap (length xs) (k + length d)) e (omega (arith, lx, room)) in
      let seen : turn k Y ≡ put (turn k X) (length d) e
      = turn-ring_put (length xs) k (length d) X e lx inside room some in
      let first : turn k X ≡ F = turn-unturn k F (omega (arith, length-F, inside)) in
      sym (unturn-turn k Y (omega (arith, ly, lx, inside)))
      ∙ ap (unturn k) (seen ∙ ap (λ (x : List ℕ). put x (length d) e) first ∙ both_put)
