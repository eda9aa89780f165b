use Rattle.std.proofs.Common.{◌<◌, List, [], None, length, arith}
use Rattle.em_rx.specs.Fifo.{first, shows}
use Rattle.em_rx.specs.Frame.{Frame}
use Rattle.em_stored.specs.Form.{frame_form}
use Rattle.em_stored.proofs.FifoLaws.{first_left, one_fewer, tagged_more}
use Rattle.em_stored.proofs.FormLaws.{written_more}
use Rattle.em_stored.proofs.storing.put_fifo.Goals as goal

pub loop-k-preserved : goal.loop-k-preserved
loop-k-preserved c =
    let frames : List Frame = (shows c.args.fifo.now).frames in
    let left = shows c.loop-k.left in
    let k = c.loop-k.k in
    let none : Frame = record { octets = []; tag = None } in
    let lt : k < length frames = omega arith in
    let is = first_left left frames k none c.loop-k.invariant.left lt in
    record {
      written = written_more frame_form c.put_number.new.out.items c.loop-k.out.items c.put_frame.new.out.items frames k
          (first left) none lt is c.loop-k.invariant.written
          (c.in_ok-put_frame.ensures.octets (first left) c.in-Some.ensures.lies);
      left = one_fewer left (shows c.pass.new.self) frames k c.rest-rest.result c.loop-k.invariant.left
          c.rest-rest.ensures.rest c.rest-rest.ensures.some c.pass.ensures;
      tags = tagged_more left frames k none c.in-Some.frame.tag is lt c.in-Some.ensures.lies.tag
          c.in_ok-put_frame.ensures.tag c.loop-k.invariant.tags;
    }
