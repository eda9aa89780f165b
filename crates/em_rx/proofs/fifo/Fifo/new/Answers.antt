-- Both vectors hold copies of one value, and no frame lies in them.
use Rattle.std.proofs.Common.{ℕ, None, arith, ap, ◌∙◌, length, refl}
use Rattle.std.proofs.lemmas.List.{length-replicate}
use Rattle.em_rx.specs.Fifo.{fresh}
use Rattle.em_rx.specs.declared.places.Entry.{Entry}
use Rattle.em_rx.proofs.fifo.Fifo.new.Goals as goal

pub invariant_of-result : goal.invariant_of-result
invariant_of-result c =
    let none : ℕ = 0 in
    let free : Entry = record { len = 0; tag = None } in
    record {
      octets = ap length (c.in_ok-octets.ensures.items_if_clones_equal (λ y is. is)) ∙ length-replicate 49_152 none;
      entries = ap length (c.in_ok-entries.ensures.items_if_clones_equal (λ y is. is)) ∙ length-replicate 877 free;
      head = omega arith;
      first = omega arith;
      count = omega arith;
      used = refl;
      room = omega arith;
      least = λ k e low. omega (arith, low);
      within = refl;
    }

pub returns-clause-ok : goal.returns-clause-ok
unfolding fresh
returns-clause-ok c =
    let octets = c.in_ok-octets.ensures.items_if_clones_equal (λ y is. is) in
    let entries = c.in_ok-entries.ensures.items_if_clones_equal (λ y is. is) in
    λ i. record {
      octets = octets i;
      entries = entries i;
      places = record { head = 0; first = 0; count = 0; taken = 0; used = 0 };
    }
