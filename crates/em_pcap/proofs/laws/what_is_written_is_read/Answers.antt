use Rattle.em_pcap.proofs.WritingLaws.{all_are_read}
use Rattle.em_pcap.proofs.laws.what_is_written_is_read.Goals as goal

pub returns : goal.returns
returns c = all_are_read
