use Rattle.std.proofs.Common.{◌∙◌, subst}
use Rattle.std.specs.Iterator.{Drains}
use Rattle.em_watch.specs.RegisterSearch.{GivesRegister, RegisterSearch}
use Rattle.em_recording.proofs.effects.registers_of.Goals as goal

pub returns : goal.returns
returns c =
    let last = rw c.in-None.is at c.next.ensures.steps in
    record {
      ok = record {
        changes = c.loop-change.yielded;
        all = subst (λ (s : RegisterSearch). Drains GivesRegister s c.loop-change.yielded)
            (c.into_iter-change-iterator.ensures.into_iter_gives ∙ c.registers-change-items.ensures)
            (c.next.new.self, (c.loop-change.change-iterator, c.loop-change.yielded_by, last));
        each = c.loop-change.invariant.2;
      };
    }
