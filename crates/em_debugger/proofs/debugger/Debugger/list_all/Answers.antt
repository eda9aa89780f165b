use Rattle.std.proofs.Common.{Ok, refl, ap}
use Rattle.em_debugger.specs.Listing.{ListsNext, over, stopped}
use Rattle.em_debugger.specs.Next.{Shown}
use Rattle.em_debugger.specs.Performing.{fault_text}
use Rattle.em_debugger.proofs.ListingLaws.{Lists-end, Lists-over}
use Rattle.em_debugger.proofs.NextLaws.{ToldBy-more}
use Rattle.em_debugger.proofs.PlayedLaws.{ahead_falls}
use Rattle.em_debugger.proofs.debugger.Debugger.list_all.Goals as goal

pub ahead-preserved : goal.ahead-preserved
ahead-preserved g c =
    let wrote = c.in_ok-list-in-Ok-Some.ensures.ok in
    let one : Shown = record { performed = c.in-Ok-Some.performed; text = wrote.0 } in
    ToldBy-more ListsNext c.args.self.now c.ahead.self c.perform_next.new.self _ _ _ one c.ahead.invariant
    (record { performs = rw c.in-Ok-Some.field-0-is at c.in-Ok-Some.ensures.some; text = wrote.2 }) wrote.1

pub ahead-smaller : goal.ahead-smaller
ahead-smaller g c =
    ahead_falls c.ahead.self c.perform_next.new.self c.in-Ok-Some.performed
    (rw c.in-Ok-Some.field-0-is at c.in-Ok-Some.ensures.some)

pub returns-in-Ok-None : goal.returns-in-Ok-None
returns-in-Ok-None g c =
    let none = c.in-Ok-None.ensures.none (ap Ok c.in-Ok-None.field-0-is) in
    record {
      ok = Lists-over c.args.self.now c.ahead.self c.perform_next.new.self _ _ c.ahead.invariant
          (over none.1 none.0 refl);
    }

pub returns-in-Err : goal.returns-in-Err
returns-in-Err g c = record {
  ok = Lists-end c.args.self.now c.ahead.self c.perform_next.new.self _ _ _ c.write_fault.result
      (fault_text c.in-Err.fault) c.ahead.invariant c.write_fault.ensures.writes
      (stopped c.in-Err.fault c.in-Err.ensures.only refl c.in-Err.ensures.err);
}
