-- The second piece is put behind the first.
use Rattle.std.proofs.Common.{◌≡◌, ◌+◌, ◌<◌, ℕ, length, ap, ◌∙◌, arith}
use Rattle.std.proofs.lemmas.Bool.Decides.{nat_tests}
use Rattle.em_mem.specs.Ring.{ring_put, wrap}
use Rattle.em_mem.proofs.RingLaws.{length-ring_put}
use Rattle.em_rx.proofs.PutBothLaws.{ring_put-append}
use Rattle.em_rx.proofs.ring.put_both.Goals as goal

pub returns-then-not-is_empty : goal.returns-then-not-is_empty
returns-then-not-is_empty c =
    let xs = c.args.ring.now.items in
    let at = c.args.at in
    let front = c.args.front.now in
    let back = c.args.back.now in
    let size : c.len.result ≡ length xs
    = omega (
      arith,
      c.len.ensures,
      c.put_octets.new.ring.ok.0,
      ap length c.put_octets.ensures.ring,
      length-ring_put xs at front (omega (arith, c.requires.size)),
    ) in
    let place : c.wrap-behind.result ≡ wrap (length xs) (at + length front)
    = c.wrap-behind.ensures ∙ ap (λ (n : ℕ). wrap n (at + length front)) size in
    let some : 0 < length back = grind (arith, nat_tests, c.if-not-is_empty.true, c.is_empty.ensures) in
    c.put_octets-then-not-is_empty.ensures.ring
    ∙ (λ i. ring_put (c.put_octets.ensures.ring i) (place i) back)
    ∙ ring_put-append xs at front back c.requires.at c.requires.size some
