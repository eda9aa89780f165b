use Rattle.std.proofs.Common.{◌≡◌, ◌++◌, take, drop}
use Rattle.std.specs.List.{All, flat_map}
use Rattle.em_rx.specs.Fifo.{shows}
use Rattle.em_stored.specs.Form.{frame_form}
use Rattle.em_stored.specs.Machines.{IsTag}
use Rattle.em_stored.proofs.storing.put_fifo.Given as goal

-- the first frames are written, and the others are left
abbrev pub invariant-loop-k : goal.invariant-loop-k
invariant-loop-k l = record {
  written : l.out.items ≡ l.initial.out.items ++ flat_map frame_form (take l.k (shows l.fifo).frames);
  left : (shows l.left).frames ≡ drop l.k (shows l.fifo).frames;
  tags : All (λ frame. IsTag frame.tag) (take l.k (shows l.fifo).frames);
}
