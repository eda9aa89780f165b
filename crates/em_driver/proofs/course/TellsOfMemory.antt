-- The courses of the driver's calls tell of memory: wherever it is refused to one, the answer says so.
use Rattle.std.proofs.Common.{ℕ, zero, suc, ◌+◌, ◌/◌, ◌%◌, ◌==◌, Bool, true, false, not, cond, List, [], ◌∷◌}
use Rattle.std.proofs.Common.{◌++◌, min, nat_lt, Option, Some, None, refl}
use Rattle.std.specs.Prelude.{sum, ⊤}
use Rattle.em_step.specs.Access.{has}
use Rattle.em_driver.specs.Course.{Course, done}
use Rattle.em_driver.specs.Play.{Tells, TellsApart}
use Rattle.em_driver.specs.TellsMemory.{start_says, batch_says}
use Rattle.em_driver.specs.Calls.{get_link_speed, get_mac_addr, read_stats, reset_stats, set_mac_addr}
use Rattle.em_driver.specs.Descriptor.{is_done, is_whole, length_of}
use Rattle.em_regs.specs.Ring.{following}
use Rattle.em_driver.specs.Receive.{Answered, rx_from, rx_packet, rx_batch, received, stopped}
use Rattle.em_driver.specs.Transmit.{tx_from, tx_batch, is_packet, free_from, are_indices}
use Rattle.em_driver.specs.Start.{Start, Part, each_from, global_reset, eeprom_word, words_from, summed, eeprom}
use Rattle.em_driver.specs.Start.{receive_address, multicast_table, descriptors, receive_ring}
use Rattle.em_driver.specs.Start.{transmit_ring, after_reset, start, set_link_up, until_reset}
use Rattle.em_driver.specs.declared.layout.Layout.{Layout}
use Rattle.em_driver.specs.declared.outcome.Cause.{Cause}
use Rattle.em_driver.specs.declared.outcome.Cause.TheVariants.{Broken, Checksum}
use Rattle.em_driver.specs.declared.stats.DeviceStats.{DeviceStats}

-- ---- what every course has

tells_if : {A : Type 0} (bus own : A → Bool) (b : Bool) (x y : Course A) → TellsApart bus own x → TellsApart bus own y
    → TellsApart bus own (cond b x y)
tells_if bus own true x y h k = h
tells_if bus own false x y h k = k

tells_done : {A : Type 0} (bus own : A → Bool) (a : A) → TellsApart bus own (done a)
unfolding TellsApart
tells_done bus own a = tt

-- ---- the small calls, to which no memory is refused

pub get_mac_addr_tells : (bus own : List ℕ → Bool) → TellsApart bus own get_mac_addr
unfolding TellsApart
get_mac_addr_tells bus own = λ low high. tt

pub set_mac_addr_tells : (bus own : ⊤ → Bool) (octets : List ℕ) → TellsApart bus own (set_mac_addr octets)
unfolding TellsApart
set_mac_addr_tells bus own octets = tt

pub read_stats_tells : (bus own : DeviceStats → Bool) (counted : DeviceStats) → TellsApart bus own (read_stats counted)
unfolding TellsApart
read_stats_tells bus own counted = λ a b c d e f. tt

pub reset_stats_tells : (bus own : ⊤ → Bool) → TellsApart bus own reset_stats
unfolding TellsApart
reset_stats_tells bus own = λ a b c d e f. tt

pub get_link_speed_tells : (bus own : ℕ → Bool) → TellsApart bus own get_link_speed
unfolding TellsApart
get_link_speed_tells bus own = λ status. tt

-- ---- rx_batch

rx_packet_tells : (l : Layout) (i count : ℕ) (queue : List (List ℕ)) (len : ℕ) (more : List (List ℕ) → Course Answered)
    → ((packets : List (List ℕ)) → Tells batch_says (more packets))
    → Tells batch_says (rx_packet l i count queue len more)
unfolding TellsApart
rx_packet_tells l i count queue len more h = (refl, λ packet. (refl, h (queue ++ packet ∷ [])))

rx_from_tells : (l : Layout) (left i count : ℕ) (queue : List (List ℕ))
    → Tells batch_says (rx_from l left i count queue)
unfolding TellsApart rx_from
rx_from_tells l zero i count queue = tt
rx_from_tells l (suc left) i count queue = λ d.
    let next = rx_from l left (following l.rx_count i) (count + 1) in
    let packet = rx_packet l i count queue (length_of d) next in
    let broken : Course Answered = done (queue, stopped count Broken) in
    tells_if batch_says batch_says (not (is_done d)) (done (queue, received count))
    (cond (not (is_whole d)) broken packet) tt
    (tells_if batch_says batch_says (not (is_whole d)) broken packet tt
    (rx_packet_tells l i count queue (length_of d) next
    (λ packets. rx_from_tells l left (following l.rx_count i) (count + 1) packets)))

pub rx_batch_tells : (l : Layout) (number n : ℕ) (queue : List (List ℕ)) → Tells batch_says (rx_batch l number n queue)
unfolding TellsApart rx_batch
rx_batch_tells l (suc number) n queue = tt
rx_batch_tells l zero zero queue = tt
rx_batch_tells l zero (suc n) queue = λ tail.
    let next = following l.rx_count tail in
    tells_if batch_says batch_says (nat_lt tail l.rx_count) (rx_from l (min (suc n) 65536) next 0 queue)
    (done (queue, stopped 0 Broken)) (rx_from_tells l (min (suc n) 65536) next 0 queue) tt

-- ---- tx_batch

tx_from_tells : (own : Answered → Bool) (l : Layout) (free i count : ℕ) (queue : List (List ℕ))
    → TellsApart batch_says own (tx_from l free i count queue)
unfolding TellsApart tx_from
tx_from_tells own l zero i count queue = tt
tx_from_tells own l (suc free) i count [] = tt
tx_from_tells own l (suc free) i count (packet ∷ queue) =
    tells_if batch_says own (not (is_packet packet)) _ _ tt
    (refl, (refl, tx_from_tells own l free (following l.tx_count i) (count + 1) queue))

pub tx_batch_tells : (own : Answered → Bool) (l : Layout) (number : ℕ) (queue : List (List ℕ))
    → TellsApart batch_says own (tx_batch l number queue)
unfolding TellsApart tx_batch
tx_batch_tells own l (suc number) queue = tt
tx_batch_tells own l zero [] = tt
tx_batch_tells own l zero (packet ∷ queue) = λ tail head.
    tells_if batch_says own (are_indices l.tx_count head tail) _ _
    (tx_from_tells own l (free_from l.tx_count head tail) tail 0 (packet ∷ queue)) tt

-- ---- start

abbrev Test : Type 0
Test = Option Cause → Bool

abbrev TellsStart : Test → Start → Type 0
TellsStart own course = TellsApart start_says own course

each_from_tells : (own : Test) (i n : ℕ) (part : ℕ → Part) (more : Start)
    → ((j : ℕ) (rest : Start) → TellsStart own rest → TellsStart own (part j rest)) → TellsStart own more
    → TellsStart own (each_from i n part more)
unfolding each_from
each_from_tells own i zero part more each h = h
each_from_tells own i (suc n) part more each h =
    each i (each_from (i + 1) n part more) (each_from_tells own (i + 1) n part more each h)

global_reset_tells : (own : Test) (more : Start) → TellsStart own more → TellsStart own (global_reset more)
unfolding TellsApart global_reset until_reset set_link_up
global_reset_tells own more h = (refl, h)

eeprom_word_tells : (own : Test) (address : ℕ) (next : ℕ → Start) → ((word : ℕ) → TellsStart own (next word))
    → TellsStart own (eeprom_word address next)
unfolding TellsApart eeprom_word
eeprom_word_tells own address next h = λ value.
    tells_if start_says own (has value 0x10) (next (value / 0x1_0000)) (done (Some Broken)) (h (value / 0x1_0000)) tt

words_from_tells : (own : Test) (address n : ℕ) (words : List ℕ) (next : List ℕ → Start)
    → ((all : List ℕ) → TellsStart own (next all)) → TellsStart own (words_from address n words next)
unfolding words_from
words_from_tells own address zero words next h = h words
words_from_tells own address (suc n) words next h =
    eeprom_word_tells own address (λ word. words_from (address + 1) n (words ++ word ∷ []) next)
    (λ word. words_from_tells own (address + 1) n (words ++ word ∷ []) next h)

summed_tells : (own : Test) (next : List ℕ → Start) (words : List ℕ) → TellsStart own (next words)
    → TellsStart own (summed next words)
unfolding TellsApart
summed_tells own next words h =
    tells_if start_says own (sum words % 0x1_0000 == 0xBABA) (next words) (done (Some Checksum)) h tt

eeprom_tells : (own : Test) (next : List ℕ → Start) → ((words : List ℕ) → TellsStart own (next words))
    → TellsStart own (eeprom next)
unfolding eeprom
eeprom_tells own next h = words_from_tells own 0 64 [] (summed next) (λ words. summed_tells own next words (h words))

receive_address_tells : (own : Test) (words : List ℕ) (more : Start) → TellsStart own more
    → TellsStart own (receive_address words more)
unfolding TellsApart receive_address
receive_address_tells own words more h = h

multicast_table_tells : (own : Test) (more : Start) → TellsStart own more
    → TellsStart own (multicast_table more)
unfolding TellsApart multicast_table
multicast_table_tells own more h = each_from_tells own 0 128 _ more (λ j rest k. k) h

descriptors_tells : (own : Test) (ring count buffers : ℕ) (more : Start) → TellsStart own more
    → TellsStart own (descriptors ring count buffers more)
unfolding TellsApart descriptors
descriptors_tells own ring count buffers more h = each_from_tells own 0 count _ more (λ j rest k. (refl, k)) h

receive_ring_tells : (own : Test) (l : Layout) (more : Start) → TellsStart own more
    → TellsStart own (receive_ring l more)
unfolding TellsApart receive_ring
receive_ring_tells own l more h = descriptors_tells own l.rx_ring l.rx_count l.rx_buffers _ h

transmit_ring_tells : (own : Test) (l : Layout) (more : Start) → TellsStart own more
    → TellsStart own (transmit_ring l more)
unfolding TellsApart transmit_ring
transmit_ring_tells own l more h = descriptors_tells own l.tx_ring l.tx_count l.tx_buffers _ h

pub start_tells : (own : Option Cause → Bool) (l : Layout) → TellsStart own (start l)
unfolding start after_reset global_reset
start_tells own l =
    global_reset_tells own _ (eeprom_tells own _ (λ words.
    receive_address_tells own words _ (multicast_table_tells own _
    (receive_ring_tells own l _ (transmit_ring_tells own l _ (tells_done start_says own None))))))
