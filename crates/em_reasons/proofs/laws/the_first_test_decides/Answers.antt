use Rattle.em_reasons.specs.declared.dropped.Dropped.{Dropped}
use Rattle.em_reasons.specs.declared.refused.Refused.{Refused}
use Rattle.em_reasons.specs.declared.rx_idle.RxIdle.{RxIdle}
use Rattle.em_reasons.specs.declared.tx_idle.TxIdle.{TxIdle}
use Rattle.em_reasons.proofs.TableLemmas.{gives_first}
use Rattle.em_reasons.proofs.laws.the_first_test_decides.Goals as goal

pub returns : goal.returns
returns c = record {
  rx_idle = gives_first RxIdle;
  tx_idle = gives_first TxIdle;
  dropped = gives_first Dropped;
  refused = gives_first Refused;
}
