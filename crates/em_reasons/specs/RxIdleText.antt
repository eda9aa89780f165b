-- Why a receive step is idle, in words.
use Rattle.std.specs.Prelude.{ℕ, List, codes}
use Rattle.em_reasons.specs.declared.rx_idle.RxIdle.{RxIdle}
use Rattle.em_reasons.specs.declared.rx_idle.RxIdle.TheVariants.{Disabled, NoRing, HeadPast, TailPast, Empty, NoFrame}
use Rattle.em_reasons.specs.RingText.{empty_text, past_text}

abbrev pub rx_idle_text : RxIdle → List ℕ
rx_idle_text Disabled = codes "RCTL.EN is clear"
rx_idle_text NoRing = codes "the ring has no descriptor (RDLEN = 0)"
rx_idle_text (HeadPast head count) = past_text (codes "RDH") head count
rx_idle_text (TailPast tail count) = past_text (codes "RDT") tail count
rx_idle_text (Empty at) = empty_text (codes "RDH = RDT") at
rx_idle_text NoFrame = codes "no frame waits"
