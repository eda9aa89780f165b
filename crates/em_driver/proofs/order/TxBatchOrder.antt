-- What tx_batch takes, and what is queued and on the wire after it.
use Rattle.std.proofs.Common.{◌≡◌, ◌∙◌, ℕ, zero, suc, ◌+◌, ◌-◌, ◌%◌, ◌<◌, ◌≤◌, Bool, true, false, not, List}
use Rattle.std.proofs.Common.{[], ◌∷◌}
use Rattle.std.proofs.Common.{◌++◌, ◌&&◌, length, map, take, refl, sym, ap, subst, inl, inr, arith, append_assoc}
use Rattle.std.proofs.Common.{append-nil}
use Rattle.std.proofs.Common.{if◌then◌else◌}
use Rattle.std.specs.Prelude.{nat_le}
use Rattle.std.proofs.lemmas.Bool.{lt-ltb, cases_lt, leb-true}
use Rattle.std.proofs.lemmas.Bool.Decides.{nat_tests}
use Rattle.std.proofs.Math.Nat.{mod-eq_of_lt, add-mod_left}
use Rattle.em_mem.specs.Memory.{put}
use Rattle.em_regs.specs.RegFile as registers
use Rattle.em_regs.specs.Setup.{value_of}
use Rattle.em_regs.specs.declared.reg.Reg.TheVariants.{Tdh, Tdt}
use Rattle.em_regs.specs.Table.{offset_of}
use Rattle.em_regs.proofs.ProfileLaws.{reg_of-offset_of}
use Rattle.em_step.specs.Event.{reads, writes, pokes}
use Rattle.em_step.specs.Whole.{padded}
use Rattle.em_step.specs.declared.event.Answer.TheVariants.{Done, Value}
use Rattle.em_step.specs.declared.refusal.Refusal.TheVariants as refusal
use Rattle.em_driver.specs.Course.{Course, done, poke, write, Follows}
use Rattle.em_driver.specs.Descriptor.{transmit_descriptor}
use Rattle.em_driver.specs.Driven.{tdh, tdt, IsDriven}
use Rattle.em_driver.specs.Order.{InOrder, IsSound, IsUndisturbed, Transmits, waiting, queued}
use Rattle.em_driver.specs.Outcome.{cause_of}
use Rattle.em_driver.specs.Places.{distance}
use Rattle.em_regs.specs.Ring.{following}
use Rattle.em_driver.specs.Receive.{Answered}
use Rattle.em_driver.specs.Transmit.{tx_buffer, tx_descriptor, are_indices, free_from, halted, is_packet}
use Rattle.em_driver.specs.Transmit.{tx_from, tx_batch}
use Rattle.em_driver.specs.World.{World, Accesses, present}
use Rattle.em_driver.specs.declared.layout.Layout.{Layout}
use Rattle.em_driver.specs.declared.outcome.Cause.TheVariants.{Memory, Broken, PacketLength}
use Rattle.em_driver.proofs.order.HandedOver.{Hands, fills_buffer, writes_descriptor, IsReady, ready_moves}
use Rattle.em_driver.proofs.order.HandedOver.{queues}
use Rattle.em_driver.proofs.rings.ReceiveRing.{RxMoves, rx_moves_on}
use Rattle.em_driver.proofs.rings.MemoryUnits.{tx_ring, tx_buffers, unit, unit_lies}
use Rattle.em_driver.proofs.order.Accessed.{written, read_gives, read_keeps, poked, poke_refused}
use Rattle.em_driver.proofs.order.Stages.{IsBeside, beside_access}
use Rattle.em_driver.proofs.order.DrivenWorld.{Passed, passed_by, passed_but, passed_driven, beside_spared, order_on}
use Rattle.em_driver.proofs.order.DrivenWorld.{order_none, order_passes, order_read}

-- what passes before an access of the driver, and what the access takes
order_own : (l : Layout) (w m v : World) (took : List (List ℕ)) → Passed l w m
    → RxMoves l (present m) (present v) [] → IsDriven l (present v)
    → (present v).wire ++ queued l (present v) ≡ (present m).wire ++ (queued l (present m) ++ map padded took)
    → (present v).wire ≡ (present m).wire → IsBeside m v → InOrder l w v [] took
order_own l w m v took p r driven sent wire same =
    let all = rx_moves_on l (present w) (present m) (present v) p.stored [] p.holds.receiving r in
    record {
      undisturbed = record { driven = driven; spared = beside_spared l w m v p same };
      stored = p.stored;
      is_stored = same.stored ∙ p.is;
      sent = p.holds.sending.sent;
      is_sent = wire ∙ p.holds.sending.is_sent;
      receive = sym (all.waiting ∙ ap (λ x. waiting l (present w) ++ x) (append-nil p.stored));
      transmit = sym (append_assoc (present w).wire (queued l (present w)) (map padded took))
          ∙ ap (λ x. x ++ map padded took) (sym p.holds.sending.wire)
          ∙ append_assoc (present m).wire (queued l (present m)) (map padded took)
          ∙ sym sent;
    }

order_hands : (l : Layout) (w m v : World) → Passed l w m → Hands l (present m) (present v) → IsBeside m v
    → InOrder l w v [] []
order_hands l w m v p h same =
    order_own l w m v [] p h.receiving h.driven
    ((λ k. h.wire k ++ h.queued k) ∙ ap (λ x. (present m).wire ++ x)
    (sym (append-nil (queued l (present m))))) h.wire same

-- how many descriptors wait
abbrev far : Layout → World → ℕ
far l w = distance l.tx_count (tdh (present w)) (tdt (present w))

far_same : (l : Layout) (m v : World) → Hands l (present m) (present v) → far l v ≡ far l m
far_same l m v h = λ k. distance l.tx_count (h.head k) (h.tail k)

-- ---- one packet goes from the queue to the ring

-- the packet lies in the buffer at TDT
pub record HasPacket (l : Layout) (w v : World) (packet : List ℕ) : Type 0 where
  pub order : InOrder l w v [] []
  pub tail : tdt (present v) ≡ tdt (present w)
  pub far : far l v ≤ far l w
  pub buffer : take (length packet) (unit l (present v).memory tx_buffers (tdt (present v))) ≡ packet

put_packet : (l : Layout) (i : ℕ) (packet : List ℕ) (w v : World) → IsUndisturbed l w → i ≡ tdt (present w)
    → length packet ≤ 1518 → Accesses w (pokes (tx_buffer l i) packet) Done v → HasPacket l w v packet
put_packet l i packet w v h at few a =
    let p = passed_by l w a.mid h a.passes in
    let s = present a.mid in
    let at1 : i ≡ tdt s = at ∙ sym p.holds.sending.tail in
    let f = fills_buffer l s (present v) packet (passed_driven l w a.mid h.driven p) few
    (poked s (present v) (tx_buffer l i) packet a.does.0
    ∙ ap (λ k. record s { memory = put s.memory (tx_buffer l k) packet }) at1) in
    record {
      order = order_hands l w a.mid v p f.hands (beside_access w v _ _ a);
      tail = f.hands.tail ∙ p.holds.sending.tail;
      far = omega (arith, far_same l a.mid v f.hands, p.holds.sending.free);
      buffer = f.buffer;
    }

-- and its descriptor too
pub record HasDescriptor (l : Layout) (w v : World) (packet : List ℕ) : Type 0 where
  pub order : InOrder l w v [] []
  pub tail : tdt (present v) ≡ tdt (present w)
  pub far : far l v ≤ far l w
  pub ready : IsReady l (present v) packet

put_descriptor : (l : Layout) (i : ℕ) (packet : List ℕ) (w v : World) → IsUndisturbed l w → i ≡ tdt (present w)
    → length packet ≤ 1518 → 14 ≤ length packet
    → take (length packet) (unit l (present w).memory tx_buffers (tdt (present w))) ≡ packet
    → Accesses w (pokes (tx_descriptor l i) (transmit_descriptor (tx_buffer l i) (length packet))) Done v
    → HasDescriptor l w v packet
put_descriptor l i packet w v h at few least there a =
    let p = passed_by l w a.mid h a.passes in
    let s = present a.mid in
    let at1 : i ≡ tdt s = at ∙ sym p.holds.sending.tail in
    let f = writes_descriptor l s (present v) packet (passed_driven l w a.mid h.driven p) few
    (poked s (present v) (tx_descriptor l i) (transmit_descriptor (tx_buffer l i) (length packet)) a.does.0
    ∙ ap (λ k. record s {
      memory = put s.memory (tx_descriptor l k) (transmit_descriptor (tx_buffer l k) (length packet));
    }) at1) in
    record {
      order = order_hands l w a.mid v p f.hands (beside_access w v _ _ a);
      tail = f.hands.tail ∙ p.holds.sending.tail;
      far = omega (arith, far_same l a.mid v f.hands, p.holds.sending.free);
      ready = record {
        few = few;
        least = least;
        buffer = ap (take (length packet)) f.buffer
            ∙ ap (λ j. take (length packet) (unit l s.memory tx_buffers j)) p.holds.sending.tail
            ∙ ap (take (length packet)) p.holds.sending.buffer
            ∙ there;
        descriptor = f.descriptor;
      };
    }

-- the packet is queued
pub record IsQueued (l : Layout) (w v : World) (packet : List ℕ) : Type 0 where
  pub order : InOrder l w v [] (packet ∷ [])
  pub next : tdt (present v) ≡ following l.tx_count (tdt (present w))
  pub far : far l v ≤ far l w + 1

give_packet : (l : Layout) (i : ℕ) (packet : List ℕ) (w v : World) → IsUndisturbed l w → i ≡ tdt (present w)
    → IsReady l (present w) packet → far l w + 1 < l.tx_count
    → Accesses w (writes (offset_of Tdt) (following l.tx_count i)) Done v → IsQueued l w v packet
give_packet l i packet w v h at ready free a =
    let p = passed_by l w a.mid h a.passes in
    let s = present a.mid in
    let at1 : i ≡ tdt s = at ∙ sym p.holds.sending.tail in
    let q = queues l s (present v) packet (passed_driven l w a.mid h.driven p)
    (ready_moves l (present w) s packet p.holds.sending ready) (omega (arith, p.holds.sending.free))
    (written s (present v) (offset_of Tdt) Tdt (following l.tx_count i) (λ p. reg_of-offset_of p Tdt (omega arith) refl) refl
    (λ x. refl) a.does.0
    ∙ ap (λ k. record s { registers = registers.put s.registers Tdt (following l.tx_count k) }) at1) in
    record {
      order = order_own l w a.mid v (packet ∷ []) p q.receiving q.driven
          (λ k. q.wire k ++ q.queued k) q.wire (beside_access w v _ _ a);
      next = q.next ∙ ap (following l.tx_count) p.holds.sending.tail;
      far = omega (arith, q.far, p.holds.sending.free);
    }

-- ---- a course

sent_none : (l : Layout) (w v : World) (queue : List (List ℕ)) (a : Answered) → a.0 ≡ queue
    → InOrder l w v [] [] → IsSound a.1 → Transmits l w v queue a
sent_none l w v queue a same order sound = record { packets = []; taken = sym same; order = order; sound = sound }

memory_halts : (l : Layout) (w v : World) (queue : List (List ℕ)) (count own : ℕ) (a : Answered)
    → a ≡ (queue, halted count own Memory) → InOrder l w v [] [] → Transmits l w v queue a
memory_halts l w v queue count own a is order =
    sent_none l w v queue a (ap (λ x. x.0) is) order (subst (λ (x : Answered). IsSound x.1) (sym is) (λ e. cc))

both_true : (a b : Bool) → (a && b) ≡ true → (a ≡ true) × (b ≡ true)
both_true true b h = (refl, h)
both_true false b h = cc

packet_sizes : (packet : List ℕ) → is_packet packet ≡ true → (14 ≤ length packet) × (length packet ≤ 1518)
packet_sizes packet h =
    let both = both_true (nat_le 14 (length packet)) (nat_le (length packet) 1518) h in
    (leb-true 14 (length packet) both.0, leb-true (length packet) 1518 both.1)

-- from the write of the descriptor on
abbrev describing : Layout → ℕ → ℕ → List ℕ → List (List ℕ) → Course Answered → Course Answered
describing l i count packet queue more =
    poke (tx_descriptor l i) (transmit_descriptor (tx_buffer l i) (length packet))
    (λ why. (packet ∷ queue, halted count 1 (cause_of why))) (
    write Tdt (following l.tx_count i) more)

-- from the write of the packet on
abbrev handing : Layout → ℕ → ℕ → List ℕ → List (List ℕ) → Course Answered → Course Answered
handing l i count packet queue more =
    poke (tx_buffer l i) packet (λ why. (packet ∷ queue, halted count 0 (cause_of why)))
    (describing l i count packet queue more)

-- what follows the packet is in order
abbrev GoesOn : Layout → ℕ → ℕ → List (List ℕ) → Course Answered → World → Answered → Type 0
GoesOn l i most queue more v a =
    (x : World) (others : ℕ) → IsUndisturbed l x → following l.tx_count i ≡ tdt (present x)
    → far l x ≤ most + 1 → Follows x more others a v → Transmits l x v queue a

described_order : (l : Layout) (i count : ℕ) (packet : List ℕ) (queue : List (List ℕ)) (more : Course Answered)
    (w u v : World) (events : ℕ) (a : Answered) → i ≡ tdt (present w) → far l w + 1 < l.tx_count
    → is_packet packet ≡ true → HasPacket l w u packet → GoesOn l i (far l w) queue more v a
    → Follows u (describing l i count packet queue more) events a v → Transmits l w v (packet ∷ queue) a
unfolding Follows
described_order l i count packet queue more w u v events a at free good has rest (inl (why, refused, none, is)) =
    let p = passed_by l u v has.order.undisturbed refused.passes in
    let held = unit_lies l (present v).base (present v).memory (passed_but l u v p).layout.good tx_ring
    (tdt (present u)) has.order.undisturbed.driven.but.sending.tail in
    let only : why ≡ refusal.Memory
    = poke_refused (present v) (tx_descriptor l i) (transmit_descriptor (tx_buffer l i) (length packet)) why
    (record {
      from = omega (arith, held.from, ap (tx_descriptor l) (at ∙ sym has.tail));
      to = omega (arith, held.to, ap (tx_descriptor l) (at ∙ sym has.tail));
    }) (omega arith) (omega arith) refused.refuses in
    memory_halts l w v (packet ∷ queue) count 1 a (is ∙ ap (λ x. (packet ∷ queue, halted count 1 (cause_of x))) only)
    (order_on l w u v [] [] [] [] has.order (order_passes l u v has.order.undisturbed refused.passes))
described_order l i count packet queue more w u v events a at free good has rest (inr step) =
    let sizes = packet_sizes packet good in
    let d = put_descriptor l i packet u step.mid has.order.undisturbed
    (at ∙ sym has.tail) sizes.1 sizes.0 has.buffer step.step in
    let x : World = step.more.mid in
    let q = give_packet l i packet step.mid x d.order.undisturbed (at ∙ sym has.tail ∙ sym d.tail) d.ready
    (omega (arith, has.far, d.far)) step.more.step in
    let left = rest x step.more.others q.order.undisturbed
    (ap (following l.tx_count) (at ∙ sym has.tail ∙ sym d.tail) ∙ sym q.next) (omega (arith, q.far, d.far, has.far))
    step.more.more in
    record {
      packets = packet ∷ left.packets;
      taken = ap (λ y. packet ∷ y) left.taken;
      order = order_on l w u v [] [] [] (packet ∷ left.packets) has.order
          (order_on l u step.mid v [] [] [] (packet ∷ left.packets) d.order
          (order_on l step.mid x v [] (packet ∷ []) [] left.packets q.order left.order));
      sound = left.sound;
    }

packet_order : (l : Layout) (i count : ℕ) (packet : List ℕ) (queue : List (List ℕ)) (more : Course Answered)
    (w v : World) (events : ℕ) (a : Answered) → IsUndisturbed l w → i ≡ tdt (present w)
    → far l w + 1 < l.tx_count → is_packet packet ≡ true → GoesOn l i (far l w) queue more v a
    → Follows w (handing l i count packet queue more) events a v → Transmits l w v (packet ∷ queue) a
unfolding Follows
packet_order l i count packet queue more w v events a h at free good rest (inl (why, refused, none, is)) =
    let sizes = packet_sizes packet good in
    let p = passed_by l w v h refused.passes in
    let held = unit_lies l (present v).base (present v).memory (passed_but l w v p).layout.good tx_buffers
    (tdt (present w)) h.driven.but.sending.tail in
    let only : why ≡ refusal.Memory
    = poke_refused (present v) (tx_buffer l i) packet why
    (record {
      from = omega (arith, held.from, ap (tx_buffer l) at);
      to = omega (arith, held.to, sizes.1, ap (tx_buffer l) at);
    })
    (omega (arith, sizes.0)) (omega (arith, sizes.1)) refused.refuses in
    memory_halts l w v (packet ∷ queue) count 0 a (is ∙ ap (λ x. (packet ∷ queue, halted count 0 (cause_of x))) only)
    (order_passes l w v h refused.passes)
packet_order l i count packet queue more w v events a h at free good rest (inr step) =
    described_order l i count packet queue more w step.mid v step.others a at free good
    (put_packet l i packet w step.mid h at (packet_sizes packet good).1 step.step) rest step.more

tested_order : (l : Layout) (i count : ℕ) (packet : List ℕ) (queue : List (List ℕ)) (more : Course Answered)
    (w v : World) (events : ℕ) (a : Answered) (b : Bool) → IsUndisturbed l w → i ≡ tdt (present w)
    → far l w + 1 < l.tx_count → is_packet packet ≡ b → GoesOn l i (far l w) queue more v a
    → Follows w (if not b then done (packet ∷ queue, halted count 0 PacketLength)
    else handing l i count packet queue more) events a v
    → Transmits l w v (packet ∷ queue) a
unfolding Follows
tested_order l i count packet queue more w v events a false h at free good rest end =
    sent_none l w v (packet ∷ queue) a (ap (λ z. z.0) end.answer_is) (order_none l w v h end.world_is)
    (subst (λ (z : Answered). IsSound z.1) (sym end.answer_is) (λ e. cc))
tested_order l i count packet queue more w v events a true h at free good rest f =
    packet_order l i count packet queue more w v events a h at free good rest f

pub tx_order : (l : Layout) (free i count : ℕ) (queue : List (List ℕ)) (w v : World) (events : ℕ) (a : Answered)
    → IsUndisturbed l w → i ≡ tdt (present w) → free + far l w + 1 ≤ l.tx_count
    → Follows w (tx_from l free i count queue) events a v → Transmits l w v queue a
unfolding Follows tx_from
tx_order l zero i count queue w v events a h at room end =
    sent_none l w v queue a (ap (λ z. z.0) end.answer_is) (order_none l w v h end.world_is)
    (subst (λ (z : Answered). IsSound z.1) (sym end.answer_is) tt)
tx_order l (suc free) i count [] w v events a h at room end =
    sent_none l w v [] a (ap (λ z. z.0) end.answer_is) (order_none l w v h end.world_is)
    (subst (λ (z : Answered). IsSound z.1) (sym end.answer_is) tt)
tx_order l (suc free) i count (packet ∷ queue) w v events a h at room f =
    tested_order l i count packet queue (tx_from l free (following l.tx_count i) (count + 1) queue) w v events a
    (is_packet packet) h at (omega (arith, room)) refl
    (λ x others hx next most g.
    tx_order l free (following l.tx_count i) (count + 1) queue x v others a hx next (omega (arith, room, most)) g)
    f

-- ---- a whole call

-- as many are free as TDT can move on
free_is : (n head tail : ℕ) → head < n → tail < n → free_from n head tail + distance n head tail + 1 ≡ n
free_is n head tail h t = elim (cases_lt tail head) [
  | inl wrapped ↦
      let above : head + n - tail - 1 ≡ n + (head - tail - 1) = omega arith in
      let left : free_from n head tail ≡ head - tail - 1
      = ap (λ x. x % n) above ∙ add-mod_left n (head - tail - 1) ∙ mod-eq_of_lt (omega arith) in
      let apart : distance n head tail ≡ tail + n - head = grind (arith, nat_tests) in
      omega arith
  | inr plain ↦
      let left : free_from n head tail ≡ head + n - tail - 1 = mod-eq_of_lt (omega arith) in
      let apart : distance n head tail ≡ tail - head = grind (arith, nat_tests) in
      omega arith
]

-- a read leaves both indices of the transmit ring
pub record ReadsTx (l : Layout) (w v : World) : Type 0 where
  pub order : InOrder l w v [] []
  pub tail : tdt (present v) ≡ tdt (present w)

reads_tx : (l : Layout) (w v : World) (o value : ℕ) → IsUndisturbed l w → Accesses w (reads o) (Value value) v
    → ReadsTx l w v
reads_tx l w v o value h a =
    let p = passed_by l w a.mid h a.passes in
    let same = (read_keeps (present a.mid) (present v) o (Value value) a.does.0).registers in
    record {
      order = order_read l w v o (Value value) h a;
      tail = ap (λ r. value_of r Tdt) same ∙ p.holds.sending.tail;
    }

pub tx_batch_order : (l : Layout) (number : ℕ) (queue : List (List ℕ)) (w v : World) (events : ℕ) (a : Answered)
    → IsUndisturbed l w → Follows w (tx_batch l number queue) events a v → Transmits l w v queue a
unfolding Follows tx_batch
tx_batch_order l (suc number) queue w v events a h end =
    sent_none l w v queue a (ap (λ z. z.0) end.answer_is) (order_none l w v h end.world_is)
    (subst (λ (z : Answered). IsSound z.1) (sym end.answer_is) (λ e. cc))
tx_batch_order l zero [] w v events a h end =
    sent_none l w v [] a (ap (λ z. z.0) end.answer_is) (order_none l w v h end.world_is)
    (subst (λ (z : Answered). IsSound z.1) (sym end.answer_is) tt)
tx_batch_order l zero (packet ∷ queue) w v events a h (tail, one) =
    let m : World = one.mid in
    let head : ℕ = one.more.0 in
    let two = one.more.1 in
    let x : World = two.mid in
    let r1 = reads_tx l w m (offset_of Tdt) tail h one.step in
    let r2 = reads_tx l m x (offset_of Tdh) head r1.order.undisturbed two.step in
    let s1 = present one.step.mid in
    let s2 = present two.step.mid in
    let tail_is : tail ≡ tdt (present x)
    = read_gives s1 (present m) (offset_of Tdt) tail Tdt (λ p. reg_of-offset_of p Tdt (omega arith) refl) one.step.does.0
    ∙ sym (ap (λ r. value_of r Tdt) (read_keeps s1 (present m) (offset_of Tdt) (Value tail) one.step.does.0).registers)
    ∙ sym r2.tail in
    let head_is : head ≡ tdh (present x)
    = read_gives s2 (present x) (offset_of Tdh) head Tdh (λ p. reg_of-offset_of p Tdh (omega arith) refl) two.step.does.0
    ∙ sym (ap (λ r. value_of r Tdh) (read_keeps s2 (present x) (offset_of Tdh)
    (Value head) two.step.does.0).registers) in
    let k = r2.order.undisturbed.driven.but.sending in
    let low_tail : tail < l.tx_count = subst (λ y. y < l.tx_count) (sym tail_is) k.tail in
    let low_head : head < l.tx_count = subst (λ y. y < l.tx_count) (sym head_is) k.head in
    let good : are_indices l.tx_count head tail ≡ true
    = λ p. lt-ltb tail l.tx_count low_tail p && lt-ltb head l.tx_count low_head p in
    let far_is : distance l.tx_count head tail ≡ far l x = λ p. distance l.tx_count (head_is p) (tail_is p) in
    let left = tx_order l (free_from l.tx_count head tail) tail 0
    (packet ∷ queue) x v two.others a r2.order.undisturbed tail_is
    (omega (arith, free_is l.tx_count head tail low_head low_tail, far_is))
    (subst (λ b. Follows x (if b then tx_from l (free_from l.tx_count head tail) tail 0 (packet ∷ queue)
    else done (packet ∷ queue, halted 0 0 Broken)) two.others a v) good two.more) in
    record {
      packets = left.packets;
      taken = left.taken;
      order = order_on l w m v [] [] [] left.packets r1.order
          (order_on l m x v [] [] [] left.packets r2.order left.order);
      sound = left.sound;
    }
