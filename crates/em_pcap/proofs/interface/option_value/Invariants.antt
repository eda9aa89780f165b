use Rattle.std.proofs.Common.{◌≡◌, length}
use Rattle.em_pcap.specs.Options.{option_value}
use Rattle.em_pcap.proofs.interface.option_value.Given as goal

-- the rest has the value that all have
abbrev pub invariant-loop-rest : goal.invariant-loop-rest
invariant-loop-rest l = option_value l.order l.code 0 l.rest ≡ option_value l.order l.code 0 l.fn.options

abbrev pub decreases-loop-rest : goal.decreases-loop-rest
decreases-loop-rest l = length l.rest
