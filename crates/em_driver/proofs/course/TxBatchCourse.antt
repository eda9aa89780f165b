-- How the course of tx_batch is followed.
use Rattle.std.proofs.Common.{◌≡◌, ◌≢◌, ◌∙◌, ℕ, zero, suc, ◌+◌, ◌*◌, ◌<◌, Bool, true, false, not, List, [], ◌∷◌}
use Rattle.std.proofs.Common.{length, drop, get_or, Vec, Global, Ok, Err, refl, sym, ap, subst, arith, if◌then◌else◌}
use Rattle.em_regs.specs.Table.{offset_of}
use Rattle.em_regs.specs.declared.reg.Reg.TheVariants.{Tdh, Tdt}
use Rattle.em_step.specs.Event.{reads, writes, pokes}
use Rattle.em_step.specs.declared.event.Answer.TheVariants.{Value, Done}
use Rattle.em_step.specs.declared.refusal.Refusal.{Refusal}
use Rattle.em_driver.specs.Course.{Course, done, write, poke, Follows, Comes}
use Rattle.em_driver.specs.Descriptor.{transmit_descriptor}
use Rattle.em_driver.specs.Outcome.{cause_of}
use Rattle.em_regs.specs.Ring.{following}
use Rattle.em_driver.specs.Receive.{Answered}
use Rattle.em_turn.specs.Planned.{lists}
use Rattle.em_driver.specs.Transmit.{tx_descriptor, tx_buffer, free_from, are_indices, is_packet, handed, halt_after}
use Rattle.em_driver.specs.Transmit.{halted, tx_from, tx_batch, Sends, SendsOrNot, Halts, HaltsAt}
use Rattle.em_driver.specs.World.{World, Accesses, IsRefused}
use Rattle.em_driver.specs.declared.layout.Layout.{Layout}
use Rattle.em_driver.specs.declared.outcome.Stopped.{Stopped}
use Rattle.em_driver.specs.declared.outcome.Cause.TheVariants.{Queue, PacketLength, Broken}
use Rattle.em_driver.proofs.course.CourseSteps.{ends, pokes_on, poke_stops, comes_both, comes_as, comes_on, comes_read}
use Rattle.em_driver.proofs.course.CourseSteps.{comes_poke, comes_write}

-- ---- one packet

-- the rest of the course once the packet was measured
abbrev pub put_in : Layout → ℕ → ℕ → ℕ → List ℕ → List (List ℕ) → Course Answered
put_in l free i count packet queue =
    poke (tx_buffer l i) packet (λ refusal. (packet ∷ queue, halted count 0 (cause_of refusal))) (
    poke (tx_descriptor l i) (transmit_descriptor (tx_buffer l i) (length packet))
    (λ refusal. (packet ∷ queue, halted count 1 (cause_of refusal))) (
    write Tdt (following l.tx_count i) (tx_from l free (following l.tx_count i) (count + 1) queue)))

abbrev pub by_length : Layout → ℕ → ℕ → ℕ → List ℕ → List (List ℕ) → Bool → Course Answered
by_length l free i count packet queue is_good =
    if not is_good then done (packet ∷ queue, halted count 0 PacketLength) else put_in l free i count packet queue

measured : (l : Layout) (free i count : ℕ) (packet : List ℕ) (queue : List (List ℕ)) (b : Bool) → is_packet packet ≡ b
    → tx_from l (suc free) i count (packet ∷ queue) ≡ by_length l free i count packet queue b
unfolding tx_from
measured l free i count packet queue b e = ap (by_length l free i count packet queue) e

pub bad_length : (l : Layout) (i : ℕ) {count : ℕ} (w : World) (packet : List ℕ) {stop : Stopped}
    → is_packet packet ≡ false → stop ≡ halt_after count 0 PacketLength → Halts l i count w w packet stop
bad_length l i {count = count} w packet bad is = (
  0,
  ap (λ s. s.events) is,
  λ free queue.
      subst (λ s. Follows w (tx_from l (suc free) i count (packet ∷ queue)) 0 (packet ∷ queue, Err s) w) (sym is)
      (subst (λ x. Follows w x 0 (packet ∷ queue, halted count 0 PacketLength) w)
      (sym (measured l free i count packet queue false bad)) (ends w (packet ∷ queue, halted count 0 PacketLength))),
)

pub packet_refused : (l : Layout) (i : ℕ) {count addr : ℕ} {w v : World} {packet : List ℕ} {refusal : Refusal}
    {stop : Stopped} → is_packet packet ≡ true → addr ≡ tx_buffer l i → IsRefused w (pokes addr packet) refusal v
    → stop ≡ halt_after count 0 (cause_of refusal) → Halts l i count w v packet stop
packet_refused l i {count = count} {addr = addr} {w = w} {v = v} {packet = packet} {refusal = refusal} good at refused is =
    let refused : IsRefused w (pokes (tx_buffer l i) packet) refusal v
    = subst (λ a. IsRefused w (pokes a packet) refusal v) at refused in (
      0,
      ap (λ s. s.events) is,
      λ free queue.
          subst (λ s. Follows w (tx_from l (suc free) i count (packet ∷ queue)) 0 (packet ∷ queue, Err s) v) (sym is)
          (subst (λ x. Follows w x 0 (packet ∷ queue, halted count 0 (cause_of refusal)) v)
          (sym (measured l free i count packet queue true good))
          (poke_stops w v (tx_buffer l i) packet _ _ refusal refused refl)),
    )

-- the packet was written
pub written : (l : Layout) (i addr : ℕ) (w m : World) (packet : List ℕ) → addr ≡ tx_buffer l i
    → Accesses w (pokes addr packet) Done m → Accesses w (pokes (tx_buffer l i) packet) Done m
written l i addr w m packet at wrote = subst (λ a. Accesses w (pokes a packet) Done m) at wrote

-- its descriptor, in other words
pub described : (l : Layout) (i addr len : ℕ) (octets packet : List ℕ) → octets ≡ transmit_descriptor addr len
    → addr ≡ tx_buffer l i → len ≡ length packet
    → octets ≡ transmit_descriptor (tx_buffer l i) (length packet)
described l i addr len octets packet is at long =
    is ∙ ap (λ a. transmit_descriptor a len) at ∙ ap (λ n. transmit_descriptor (tx_buffer l i) n) long

pub descriptor_refused : (l : Layout) (i : ℕ) {count place : ℕ} {w m v : World} {packet octets : List ℕ}
    {refusal : Refusal} {stop : Stopped} → is_packet packet ≡ true
    → Accesses w (pokes (tx_buffer l i) packet) Done m → place ≡ tx_descriptor l i
    → octets ≡ transmit_descriptor (tx_buffer l i) (length packet) → IsRefused m (pokes place octets) refusal v
    → stop ≡ halt_after count 1 (cause_of refusal) → Halts l i count w v packet stop
descriptor_refused l i {count = count} {w = w} {m = m} {v = v} {packet = packet} {octets = octets} {refusal = refusal} good wrote at described refused is =
    let refused : IsRefused m (pokes (tx_descriptor l i) octets) refusal v
    = subst (λ a. IsRefused m (pokes a octets) refusal v) at refused in
    let refused : IsRefused m (pokes (tx_descriptor l i) (transmit_descriptor (tx_buffer l i) (length packet)))
    refusal v
    = subst (λ d. IsRefused m (pokes (tx_descriptor l i) d) refusal v) described refused in (
      1,
      ap (λ s. s.events) is,
      λ free queue.
          subst (λ s. Follows w (tx_from l (suc free) i count (packet ∷ queue)) 1 (packet ∷ queue, Err s) v) (sym is)
          (subst (λ x. Follows w x 1 (packet ∷ queue, halted count 1 (cause_of refusal)) v)
          (sym (measured l free i count packet queue true good))
          (pokes_on w m v (tx_buffer l i) packet _ _ 1 0 _ wrote refl
          (poke_stops m v (tx_descriptor l i) _ _ _ refusal refused refl))),
    )

pub sent : (l : Layout) (i j count place : ℕ) (w m u v : World) (packet octets : List ℕ) → is_packet packet ≡ true
    → Accesses w (pokes (tx_buffer l i) packet) Done m → place ≡ tx_descriptor l i
    → octets ≡ transmit_descriptor (tx_buffer l i) (length packet) → Accesses m (pokes place octets) Done u
    → j ≡ following l.tx_count i → Accesses u (writes (offset_of Tdt) j) Done v → Sends l i count w v packet
sent l i j count place w m u v packet octets good wrote at described put next gave free queue =
    let put : Accesses m (pokes (tx_descriptor l i) octets) Done u
    = subst (λ a. Accesses m (pokes a octets) Done u) at put in
    let put : Accesses m (pokes (tx_descriptor l i) (transmit_descriptor (tx_buffer l i) (length packet))) Done u
    = subst (λ d. Accesses m (pokes (tx_descriptor l i) d) Done u) described put in
    let gave : Accesses u (writes (offset_of Tdt) (following l.tx_count i)) Done v
    = subst (λ x. Accesses u (writes (offset_of Tdt) x) Done v) next gave in
    subst (λ x. Comes w x 3 v (tx_from l free (following l.tx_count i) (count + 1) queue))
    (sym (measured l free i count packet queue true good))
    (comes_both w m v _ _ _ 1 2 3 (comes_poke w m (tx_buffer l i) packet _ _ wrote) refl
    (comes_both m u v _ _ _ 1 1 2 (comes_poke m u (tx_descriptor l i) _ _ _ put) refl
    (comes_write u v Tdt (following l.tx_count i) _ gave)))

-- ---- the first packet of a queue

-- a queue with its first packet
pub fronted : (queue rest : List (Vec ℕ Global)) (x : Vec ℕ Global) (packet : List ℕ) → x ≡ get_or queue 0 x
    → 0 < length queue → rest ≡ drop 1 queue → packet ≡ x.items → lists queue ≡ packet ∷ lists rest
fronted [] rest x packet e h f g = absurd (omega (arith, h))
fronted (y ∷ queue) rest x packet e h f g =
    ap (λ z. z.items ∷ lists queue) (sym e) ∙ ap (λ q. x.items ∷ lists q) (sym f) ∙ ap (λ p. p ∷ lists rest) (sym g)

pub none_left : (l : Layout) (i count : ℕ) (w : World) (queue : List (Vec ℕ Global)) → length queue ≡ 0
    → SendsOrNot false l i count w w (lists queue) (lists queue)
unfolding tx_from
none_left l i count w [] none free = ends w ([], handed count)
none_left l i count w (x ∷ queue) none free = cc

pub front_sent : (l : Layout) (i count : ℕ) (w v : World) {packet : List ℕ} {before now : List (List ℕ)}
    → before ≡ packet ∷ now → Sends l i count w v packet → SendsOrNot true l i count w v before now
front_sent l i count w v {now = now} front sends free =
    subst (λ q. Comes w (tx_from l (suc free) i count q) 3 v (tx_from l free (following l.tx_count i) (count + 1) now))
    (sym front) (sends free now)

pub front_halts : (l : Layout) (i count : ℕ) (w v : World) {packet : List ℕ} {before rest : List (List ℕ)}
    (stop : Stopped) → before ≡ packet ∷ rest → Halts l i count w v packet stop
    → HaltsAt l i count w v before before stop
front_halts l i count w v {rest = rest} stop front halts = (
  halts.0,
  halts.1,
  λ free.
      subst (λ q. Follows w (tx_from l (suc free) i count q) halts.0 (q, Err stop) v) (sym front) (halts.2 free rest),
)

-- ---- a whole call

pub other_queue : (l : Layout) (number : ℕ) (queue : List (List ℕ)) (w : World) → number ≢ 0
    → Follows w (tx_batch l number queue) 0 (queue, Err record { count = 0; events = 0; cause = Queue }) w
unfolding tx_batch
other_queue l zero queue w h = absurd (h refl)
other_queue l (suc number) queue w h = ends w _

pub no_packets : (l : Layout) (number : ℕ) (queue : List (Vec ℕ Global)) (w : World) → number ≡ 0
    → length queue ≡ 0
    → Follows w (tx_batch l number (lists queue)) 0 (lists queue, Ok record { count = 0; events = 0 }) w
unfolding tx_batch
no_packets l zero [] w h e = ends w _
no_packets l zero (x ∷ queue) w h e = cc
no_packets l (suc number) queue w h e = cc

-- what the course is by the indices that were read
abbrev pub by_indices : Layout → ℕ → ℕ → List (List ℕ) → Bool → Course Answered
by_indices l head tail queue are_good =
    if are_good then tx_from l (free_from l.tx_count head tail) tail 0 queue else done (queue, halted 0 0 Broken)

pub opened_as : (l : Layout) (number head tail : ℕ) (queue : List (Vec ℕ Global)) (w m v : World) (b : Bool)
    → number ≡ 0 → length queue ≢ 0 → are_indices l.tx_count head tail ≡ b
    → Accesses w (reads (offset_of Tdt)) (Value tail) m → Accesses m (reads (offset_of Tdh)) (Value head) v
    → Comes w (tx_batch l number (lists queue)) 2 v (by_indices l head tail (lists queue) b)
unfolding tx_batch
opened_as l (suc number) head tail queue w m v b h e good first second = cc
opened_as l zero head tail [] w m v b h e good first second = absurd (e refl)
opened_as l zero head tail (x ∷ queue) w m v b h e good first second =
    comes_as w v _ _ _ 2 2
    (comes_both w m v _ _ _ 1 1 2 (comes_read w m Tdt _ tail first) refl (comes_read m v Tdh _ head second)) refl
    (ap (by_indices l head tail (lists (x ∷ queue))) (sym good))

pub opened : (l : Layout) (number head tail free : ℕ) (queue : List (Vec ℕ Global)) (w m v : World)
    → number ≡ 0 → length queue ≢ 0 → are_indices l.tx_count head tail ≡ true
    → free ≡ free_from l.tx_count head tail → Accesses w (reads (offset_of Tdt)) (Value tail) m
    → Accesses m (reads (offset_of Tdh)) (Value head) v
    → Comes w (tx_batch l number (lists queue)) 2 v (tx_from l free tail 0 (lists queue))
opened l number head tail free queue w m v h e good many first second =
    comes_as w v _ _ _ 2 2 (opened_as l number head tail queue w m v true h e good first second) refl
    (ap (λ k. tx_from l k tail 0 (lists queue)) many)

pub broken_index : (l : Layout) {number head tail : ℕ} (queue : List (Vec ℕ Global)) {w m v : World} {stop : Stopped}
    → number ≡ 0 → length queue ≢ 0 → are_indices l.tx_count head tail ≡ false → stop ≡ halt_after 0 0 Broken
    → Accesses w (reads (offset_of Tdt)) (Value tail) m → Accesses m (reads (offset_of Tdh)) (Value head) v
    → Follows w (tx_batch l number (lists queue)) stop.events (lists queue, Err stop) v
broken_index l {number = number} {head = head} {tail = tail} queue {w = w} {m = m} {v = v} h e bad is first second =
    subst (λ s. Follows w (tx_batch l number (lists queue)) s.events (lists queue, Err s) v) (sym is)
    (comes_on w v v _ _ 2 0 2 _ (opened_as l number head tail queue w m v false h e bad first second) refl
    (ends v (lists queue, halted 0 0 Broken)))

-- the call has come so far that `left` descriptors are free after `count` packets
abbrev pub Going : World → Layout → ℕ → ℕ → ℕ → ℕ → World → List (List ℕ) → List (List ℕ) → Type 0
Going w l number left i count v before now =
    Comes w (tx_batch l number before) (2 + 3 * count) v (tx_from l left i count now)

pub goes_on : (l k : Layout) (number left rest i j count : ℕ) (w v u : World) (before mid now : List (List ℕ))
    → k ≡ l → left ≡ suc rest → j ≡ following l.tx_count i → Going w l number left i count v before mid
    → SendsOrNot true k i count v u mid now → Going w l number rest j (count + 1) u before now
goes_on l k number left rest i j count w v u before mid now same one at going sends =
    let sends : SendsOrNot true l i count v u mid now
    = subst (λ x. SendsOrNot true x i count v u mid now) same sends in
    let going : Going w l number (suc rest) i count v before mid
    = subst (λ x. Going w l number x i count v before mid) one going in
    subst (λ x. Going w l number rest x (count + 1) u before now) (sym at)
    (comes_both w v u _ _ _ (2 + 3 * count) 3 (2 + 3 * (count + 1)) going (omega arith) (sends rest))

pub goes_to_the_end : (l : Layout) (number left i count : ℕ) (w v : World) (before now : List (List ℕ)) → left ≡ 0
    → Going w l number left i count v before now
    → Follows w (tx_batch l number before) (2 + 3 * count) (now, handed count) v
unfolding tx_from
goes_to_the_end l number zero i count w v before now none going =
    comes_on w v v _ _ (2 + 3 * count) 0 (2 + 3 * count) _ going (omega arith) (ends v (now, handed count))
goes_to_the_end l number (suc left) i count w v before now none going = cc

pub goes_no_further : (l k : Layout) (number left rest i count : ℕ) (w v u : World) (before mid now : List (List ℕ))
    → k ≡ l → left ≡ suc rest → Going w l number left i count v before mid
    → SendsOrNot false k i count v u mid now
    → Follows w (tx_batch l number before) (2 + 3 * count) (now, handed count) u
goes_no_further l k number left rest i count w v u before mid now same one going none =
    let none : SendsOrNot false l i count v u mid now
    = subst (λ x. SendsOrNot false x i count v u mid now) same none in
    let going : Going w l number (suc rest) i count v before mid
    = subst (λ x. Going w l number x i count v before mid) one going in
    comes_on w v u _ _ (2 + 3 * count) 0 (2 + 3 * count) _ going (omega arith) (none rest)

pub goes_and_stops : (l k : Layout) (number left rest i count : ℕ) (stop : Stopped) (w v u : World)
    (before mid now : List (List ℕ)) → k ≡ l → left ≡ suc rest → Going w l number left i count v before mid
    → HaltsAt k i count v u mid now stop
    → Follows w (tx_batch l number before) stop.events (now, Err stop) u
goes_and_stops l k number left rest i count stop w v u before mid now same one going halts =
    let halts : HaltsAt l i count v u mid now stop
    = subst (λ x. HaltsAt x i count v u mid now stop) same halts in
    let going : Going w l number (suc rest) i count v before mid
    = subst (λ x. Going w l number x i count v before mid) one going in
    comes_on w v u _ _ (2 + 3 * count) halts.0 stop.events _ going halts.1 (halts.2 rest)
