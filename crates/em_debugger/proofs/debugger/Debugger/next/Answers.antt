use Rattle.std.proofs.Common.{◌≡◌, Ok, [], refl, ap, arith}
use Rattle.em_text.proofs.WritingLemmas.{Appends-same}
use Rattle.em_debugger.specs.Performing.{no_line_text, fault_text}
use Rattle.em_debugger.specs.Next.{reached, over, stopped}
use Rattle.em_debugger.proofs.NextLaws.{ShowsSo-none, ShowsSo-more, TellsNext-end, TellsNext-written}
use Rattle.em_debugger.proofs.debugger.Debugger.next.Goals as goal

pub loop-index-init : goal.loop-index-init
loop-index-init g c = ShowsSo-none c.args.self.now (g.W.Write.contents c.args.writer.now)

pub loop-index-preserved : goal.loop-index-preserved
loop-index-preserved g c =
    let wrote = c.in_ok-write_performed-in-Ok-Some.ensures.ok in
    let then = c.in_ok-show_steps-in-Ok-Some.ensures.ok in
    ShowsSo-more c.args.self.now c.loop-index.self c.perform_next.new.self c.show_steps.new.self _ _ _ _
    c.loop-index.index c.in-Ok-Some.performed wrote.0 then.0 c.loop-index.invariant
    (rw c.in-Ok-Some.field-0-is at c.in-Ok-Some.ensures.some) wrote.2 wrote.1 (rw c.len-lines.ensures.len at then.2) then.1

pub returns-in-Ok-None : goal.returns-in-Ok-None
returns-in-Ok-None g c =
    let none = c.in-Ok-None.ensures.none (ap Ok c.in-Ok-None.field-0-is) in
    record {
      ok = TellsNext-written c.args.count c.loop-index.index c.args.self.now c.loop-index.self c.perform_next.new.self
          _ _ _ (no_line_text c.loop-index.index) c.write_no_line.result c.loop-index.invariant (omega arith)
          c.write_no_line.ensures.writes (over none.1 none.0 refl);
    }

pub returns-in-Err : goal.returns-in-Err
returns-in-Err g c = record {
  ok = TellsNext-written c.args.count c.loop-index.index c.args.self.now c.loop-index.self c.perform_next.new.self
      _ _ _ (fault_text c.in-Err.fault) c.write_fault.result c.loop-index.invariant (omega arith)
      c.write_fault.ensures.writes (stopped c.in-Err.fault c.in-Err.ensures.only refl c.in-Err.ensures.err);
}

pub returns : goal.returns
returns g c =
    let all : c.loop-index.index ≡ c.args.count = omega arith in
    record {
      ok = TellsNext-end c.args.count c.loop-index.index c.args.self.now c.loop-index.self c.loop-index.self _ _ _ []
          c.loop-index.invariant (omega arith) (Appends-same _) (reached all refl refl);
    }
