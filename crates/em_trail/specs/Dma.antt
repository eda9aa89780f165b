-- What an engine's step has to do with guest memory.
use Rattle.std.specs.Prelude.{List, [], ◌∷◌}
use Rattle.em_mem.specs.declared.needs.Range.{Range}
use Rattle.em_mem.specs.Needs.{no_octets}
use Rattle.em_step.specs.State.{State}
use Rattle.em_step.specs.Event.{Event, reads, writes, pokes, arrives, links, receives, transmits}
use Rattle.em_step.specs.Needs.{rx_needs, tx_needs}
use Rattle.em_trail.specs.declared.dma.Dma.{Dma}

abbrev pub no_dma : Dma
no_dma = record { descriptor = 0; buffer = no_octets }

abbrev pub first : List Range → Range
first [] = no_octets
first (r ∷ ranges) = r

abbrev pub second : List Range → Range
second [] = no_octets
second (r ∷ ranges) = first ranges

-- a receive step reads its descriptor, and writes a piece into its buffer first; a transmit step reads its descriptor and
-- then its buffer
abbrev pub dma_of : State → Event → Dma
dma_of s receives = record { descriptor = (first (rx_needs s).reads).at; buffer = first (rx_needs s).writes }
dma_of s transmits = record { descriptor = (first (tx_needs s).reads).at; buffer = second (tx_needs s).reads }
dma_of s (reads o) = no_dma
dma_of s (writes o v) = no_dma
dma_of s (pokes a octets) = no_dma
dma_of s (arrives f) = no_dma
dma_of s (links up) = no_dma
