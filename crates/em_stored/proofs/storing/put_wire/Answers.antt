use Rattle.std.proofs.Common.{[], sym}
use Rattle.std.proofs.lemmas.Option.{get_or_from_slice_get, slice_get_within}
use Rattle.em_stored.specs.Form.{counted}
use Rattle.em_stored.proofs.FormLaws.{written_more}
use Rattle.em_stored.proofs.storing.put_wire.Goals as goal

pub loop-k-preserved : goal.loop-k-preserved
loop-k-preserved c =
    let wire = c.args.machine.now.present.wire in
    let k = c.loop-k.k in
    let frame = c.in-Some.frame.now in
    let there = sym c.in-Some.ensures in
    written_more counted c.put_number.new.out.items c.loop-k.out.items c.put_counted.new.out.items wire k frame []
    (slice_get_within wire k frame there) (sym (get_or_from_slice_get wire k frame [] there)) c.loop-k.invariant
    c.in_ok-put_counted.ensures
