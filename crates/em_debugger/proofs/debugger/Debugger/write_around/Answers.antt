use Rattle.std.proofs.Common.{◌∙◌, ap}
use Rattle.em_named.specs.Numbers.{line_of}
use Rattle.em_debugger.proofs.HistoryLaws.{around_shown}
use Rattle.em_debugger.proofs.debugger.Debugger.write_around.Goals as goal

pub returns : goal.returns
returns g c =
    let d = c.args.self.now in
    record {
      ok = around_shown _ _ _ _ c.write_ahead.result d c.args.most c.args.here c.line_of-line.result c.opened.result
          (c.line_of-line.ensures.line ∙ ap (λ n. line_of n d.tape.did) c.event.ensures) c.opened.ensures.opened
          c.in_ok-write_so_far.ensures.writes c.in_ok-write_opened.ensures.ok c.write_ahead.ensures.writes;
    }
