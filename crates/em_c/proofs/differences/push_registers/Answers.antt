use Rattle.std.proofs.Common.{◌∙◌, refl, subst, map}
use Rattle.std.specs.Iterator.{Drains}
use Rattle.em_watch.specs.RegisterSearch.{GivesRegister, RegisterSearch}
use Rattle.em_c.specs.Differences.{of_register}
use Rattle.em_c.proofs.DifferencesLaws.{one_more}
use Rattle.em_c.proofs.differences.push_registers.Goals as goal

pub loop-change-preserved : goal.loop-change-preserved
loop-change-preserved c =
    let here = c.loop-change.invariant.2 in (
      tt,
      tt,
      record {
        added = one_more of_register _ _ _ c.loop-change.yielded c.in-Some.change _ here.added c.of_register.ensures
            c.in_ok-push.ensures.items;
      },
    )

pub returns : goal.returns
returns c =
    let here = c.loop-change.invariant.2 in
    let last = rw c.in-None.is at c.next.ensures.steps in
    record {
      ok = record {
        more = map of_register c.loop-change.yielded;
        are = record {
          changes = c.loop-change.yielded;
          all = subst (λ (s : RegisterSearch). Drains GivesRegister s c.loop-change.yielded)
              (c.into_iter-change-iterator.ensures.into_iter_gives ∙ c.registers-change-items.ensures)
              (c.next.new.self, (c.loop-change.change-iterator, c.loop-change.yielded_by, last));
          told = refl;
        };
        added = here.added;
      };
    }
