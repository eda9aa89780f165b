-- Why a transmit step is idle, in words.
use Rattle.std.specs.Prelude.{ℕ, List, codes}
use Rattle.em_reasons.specs.declared.tx_idle.TxIdle.{TxIdle}
use Rattle.em_reasons.specs.declared.tx_idle.TxIdle.TheVariants.{Disabled, NoRing, HeadPast, TailPast, Empty, LinkDown}
use Rattle.em_reasons.specs.RingText.{empty_text, past_text}

abbrev pub tx_idle_text : TxIdle → List ℕ
tx_idle_text Disabled = codes "TCTL.EN is clear"
tx_idle_text NoRing = codes "the ring has no descriptor (TDLEN = 0)"
tx_idle_text (HeadPast head count) = past_text (codes "TDH") head count
tx_idle_text (TailPast tail count) = past_text (codes "TDT") tail count
tx_idle_text (Empty at) = empty_text (codes "TDH = TDT") at
tx_idle_text LinkDown = codes "the link is down, and RCTL.LBM is 0"
