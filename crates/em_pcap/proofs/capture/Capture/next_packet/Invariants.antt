use Rattle.std.proofs.Common.{◌≡◌, ◌-◌, ◌≤◌, true, length}
use Rattle.em_pcap.specs.Capture.{left_of, adds_next, calls_left}
use Rattle.em_pcap.proofs.capture.Capture.next_packet.Given as goal

-- what is left is what was left before the call
abbrev pub invariant-loop-self : goal.invariant-loop-self
invariant-loop-self l = record {
  left : left_of l.self ≡ left_of l.fn.self;
  adds : adds_next l.self ≡ true → adds_next l.fn.self ≡ true;
  calls : calls_left l.self ≤ calls_left l.fn.self;
}

abbrev pub decreases-loop-self : goal.decreases-loop-self
decreases-loop-self l = length l.self.file.now - l.self.offset
