use Rattle.em_watch.specs.declared.watch.Watch.TheVariants.{Line, Link, Frames, Sent}
use Rattle.em_c.proofs.DifferencesLaws.{all_added, does}
use Rattle.em_c.proofs.differences.push_all.Goals as goal

pub returns : goal.returns
returns c =
    let v = c.args.effect.now.view in
    let back = c.args.effect.now.back in
    record {
      ok = all_added v back c.line.result c.link.result c.frames.result c.sent.result _ _ _ _ _ _ _
          c.in_ok-push_registers.ensures.ok c.in_ok-push_octets.ensures.ok
          (does Line v back c.line.result c.line.ensures.difference c.line.ensures.none) c.in_ok-push_other.ensures.ok
          (does Link v back c.link.result c.link.ensures.difference c.link.ensures.none) c.in_ok-push_other-2.ensures.ok
          (does Frames v back c.frames.result c.frames.ensures.difference c.frames.ensures.none)
          c.in_ok-push_other-3.ensures.ok
          (does Sent v back c.sent.result c.sent.ensures.difference c.sent.ensures.none)
          c.in_ok-push_other-4.ensures.ok;
    }
