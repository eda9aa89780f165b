use Rattle.std.proofs.Common.{◌∙◌, List, sym, subst}
use Rattle.std.specs.Iterator.{Drains}
use Rattle.em_watch.specs.MemorySearch.{GivesOctets, MemorySearch}
use Rattle.em_watch.specs.declared.octets.MemoryChange.{MemoryChange}
use Rattle.em_recording.proofs.effects.octets_of.Goals as goal

pub returns : goal.returns
returns c =
    let last = rw c.in-None.is at c.next.ensures.steps in
    let all = subst (λ (s : MemorySearch). Drains GivesOctets s c.loop-change.yielded)
    (c.into_iter-change-iterator.ensures.into_iter_gives ∙ c.octets-change-items.ensures)
    (c.next.new.self, (c.loop-change.change-iterator, c.loop-change.yielded_by, last)) in
    record {
      ok = subst (λ (steps : List MemoryChange).
          Drains GivesOctets (record { view = c.args.effect.now.view; back = c.args.effect.now.back; addr = 0 }) steps)
          (sym c.loop-change.invariant.2) all;
    }
