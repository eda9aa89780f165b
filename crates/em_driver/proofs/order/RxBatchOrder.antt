-- What rx_batch hands over, and what waits after it.
use Rattle.std.proofs.Common.{◌≡◌, ◌∙◌, ℕ, zero, suc, ◌+◌, ◌<◌, ◌≤◌, min, Bool, true, false, not, List, []}
use Rattle.std.proofs.Common.{◌∷◌, ◌++◌}
use Rattle.std.proofs.Common.{length, refl, sym, ap, subst, inl, inr, arith, append_assoc, append-nil}
use Rattle.std.proofs.Common.{if◌then◌else◌}
use Rattle.std.specs.Prelude.{nat_lt, IsTrue}
use Rattle.std.proofs.lemmas.Bool.{lt-ltb}
use Rattle.em_mem.specs.Memory.{LiesIn, leaves, part, put}
use Rattle.em_mem.proofs.NeedsLaws.{stays_in}
use Rattle.em_regs.specs.declared.reg.Reg.TheVariants.{Rdt}
use Rattle.em_regs.specs.RegFile as registers
use Rattle.em_regs.specs.Setup.{value_of}
use Rattle.em_regs.specs.Table.{offset_of}
use Rattle.em_regs.proofs.ProfileLaws.{reg_of-offset_of}
use Rattle.em_step.specs.Event.{writes, pokes}
use Rattle.em_step.specs.declared.event.Answer.TheVariants.{Done, Value}
use Rattle.em_step.specs.declared.refusal.Refusal.TheVariants as refusal
use Rattle.em_driver.specs.Course.{Course, done, Follows}
use Rattle.em_driver.specs.Descriptor.{length_of, is_done, is_whole}
use Rattle.em_driver.specs.Driven.{rdt, rx_at, first, is_filled, IsMarked, IsDrivenBut}
use Rattle.em_driver.specs.Order.{InOrder, IsSound, IsUndisturbed, Receives, rx_packet_at, waiting, queued}
use Rattle.em_driver.specs.Outcome.{cause_of}
use Rattle.em_regs.specs.Ring.{following}
use Rattle.em_driver.specs.Receive.{Answered, rx_buffer, rx_descriptor, received, stopped, rx_packet}
use Rattle.em_driver.specs.Receive.{rx_from, rx_batch}
use Rattle.em_driver.specs.World.{World, Accesses, present}
use Rattle.em_driver.specs.declared.layout.Layout.{Layout}
use Rattle.em_driver.specs.declared.outcome.Cause.TheVariants.{Memory, Broken}
use Rattle.em_driver.proofs.rings.WrittenDescriptors.{marked_whole}
use Rattle.em_driver.proofs.rings.RingPlaces.{following_in}
use Rattle.em_driver.proofs.rings.ReceiveRing.{first_same}
use Rattle.em_driver.proofs.rings.TransmitRing.{tx_moves_on}
use Rattle.em_driver.proofs.order.GivenBack.{clears, cleared_moves, first_packet, gives_back}
use Rattle.em_driver.proofs.rings.MemoryUnits.{rx_ring, rx_buffers, unit_lies}
use Rattle.em_driver.proofs.order.Accessed.{written, read_gives, read_keeps, poked, poke_refused}
use Rattle.em_driver.proofs.order.Stages.{beside_access}
use Rattle.em_driver.proofs.order.DrivenWorld.{passed, passed_by, passed_but, passed_driven, still_undisturbed}
use Rattle.em_driver.proofs.order.DrivenWorld.{beside_spared, order_on, order_none, order_passes, order_read}

-- ---- one packet goes from the ring to the queue's end

-- the packet of the first descriptor was handed over
pub record Took (l : Layout) (w v : World) : Type 0 where
  pub order : InOrder l w v (rx_packet_at l (present w) (first l (present w)) ∷ []) []
  pub next : first l (present v) ≡ following l.rx_count (first l (present w))

pub took : (l : Layout) (i : ℕ) (w u v : World) → IsUndisturbed l w → i ≡ first l (present w)
    → is_filled l (present w) (first l (present w)) ≡ true
    → Accesses w (pokes (rx_descriptor l i + 12) (0 ∷ [])) Done u → Accesses u (writes (offset_of Rdt) i) Done v
    → Took l w v
took l i w u v h at filled a b =
    let p = passed_by l w a.mid h a.passes in
    let h1 = passed_driven l w a.mid h.driven p in
    let s1 = present a.mid in
    let at1 : i ≡ first l s1 = at ∙ sym (first_same l (present w) s1 p.holds.receiving.tail) in
    let filled1 : is_filled l s1 (first l s1) ≡ true
    = ap (is_filled l s1) (first_same l (present w) s1 p.holds.receiving.tail) ∙ p.holds.receiving.filled filled in
    let c = clears l s1 (present u) h1 filled1
    (poked s1 (present u) (rx_descriptor l i + 12) (0 ∷ []) a.does.0
    ∙ ap (λ k. record s1 { memory = put s1.memory (rx_descriptor l k + 12) (0 ∷ []) }) at1) in
    let cleared = beside_access w u _ _ a in
    let q = passed l u b.mid c.but (beside_spared l w a.mid u p cleared) b.passes in
    let given = beside_access u v _ _ b in
    let s2 = present b.mid in
    let first_u : first l (present u) ≡ first l s1 = first_same l s1 (present u) c.tail in
    let first_2 : first l s2 ≡ first l (present u) = first_same l (present u) s2 q.holds.receiving.tail in
    let at2 : i ≡ first l s2 = at1 ∙ sym first_u ∙ sym first_2 in
    let cleared2 = cleared_moves l (present u) s2 q.stored q.holds.receiving c.cleared in
    let g = gives_back l s2 (present v) (passed_but l u b.mid q) cleared2
    (written s2 (present v) (offset_of Rdt) Rdt i (λ p. reg_of-offset_of p Rdt (omega arith) refl) refl (λ x. refl) b.does.0
    ∙ ap (λ k. record s2 { registers = registers.put s2.registers Rdt k }) at2) in
    -- the packet stayed as it was
    let packet : rx_packet_at l s2 (first l s2) ≡ rx_packet_at l (present w) (first l (present w))
    = ap (rx_packet_at l s2) first_2
    ∙ first_packet l (present u) s2 q.stored c.but.receiving q.holds.receiving c.cleared.filled
    ∙ ap (rx_packet_at l (present u)) first_u
    ∙ c.packet
    ∙ ap (rx_packet_at l s1) (first_same l (present w) s1 p.holds.receiving.tail)
    ∙ first_packet l (present w) s1 p.stored h.driven.but.receiving p.holds.receiving filled in
    let sent = tx_moves_on l (present w) s2 (present v)
    (tx_moves_on l (present w) (present u) s2
    (tx_moves_on l (present w) s1 (present u) p.holds.sending c.sending) q.holds.sending) g.sending in
    record {
      order = record {
        undisturbed = record { driven = g.driven; spared = beside_spared l u b.mid v q given };
        stored = p.stored ++ q.stored;
        is_stored = given.stored ∙ q.is ∙ ap (λ x. x ++ q.stored) (cleared.stored ∙ p.is)
            ∙ append_assoc w.stored p.stored q.stored;
        sent = sent.sent;
        is_sent = sent.is_sent;
        receive = sym (append_assoc (waiting l (present w)) p.stored q.stored)
            ∙ ap (λ x. x ++ q.stored) (sym p.holds.receiving.waiting ∙ sym c.waiting)
            ∙ sym q.holds.receiving.waiting
            ∙ g.waiting
            ∙ ap (λ x. x ∷ waiting l (present v)) packet;
        transmit = ap (λ x. (present w).wire ++ x) (append-nil (queued l (present w))) ∙ sym sent.wire;
      };
      next = g.next ∙ ap (following l.rx_count) (sym at2 ∙ at);
    }

-- ---- a course

received_none : (l : Layout) (w v : World) (queue : List (List ℕ)) (a : Answered) → a.0 ≡ queue
    → InOrder l w v [] [] → IsSound a.1 → Receives l w v queue a
received_none l w v queue a same order sound =
    record { packets = []; appended = same ∙ sym (append-nil queue); order = order; sound = sound }

received_on : (l : Layout) (w m v : World) (queue : List (List ℕ)) (a : Answered) → InOrder l w m [] []
    → Receives l m v queue a → Receives l w v queue a
received_on l w m v queue a h k = record {
  packets = k.packets;
  appended = k.appended;
  order = order_on l w m v [] [] k.packets [] h k.order;
  sound = k.sound;
}

memory_sound : (l : Layout) (w v : World) (queue : List (List ℕ)) (count : ℕ) (a : Answered)
    → a ≡ (queue, stopped count Memory) → InOrder l w v [] [] → Receives l w v queue a
memory_sound l w v queue count a is order =
    received_none l w v queue a (ap (λ x. x.0) is) order (subst (λ (x : Answered). IsSound x.1) (sym is) (λ e. cc))

-- the descriptor and its buffer are held
descriptor_held : (l : Layout) (w : World) (i : ℕ) → IsDrivenBut l (present w) → i < l.rx_count
    → LiesIn (present w).base (present w).memory (rx_descriptor l i) 16
descriptor_held l w i h low = unit_lies l (present w).base (present w).memory h.layout.good rx_ring i low

buffer_held : (l : Layout) (w : World) (i : ℕ) → IsDrivenBut l (present w) → i < l.rx_count
    → LiesIn (present w).base (present w).memory (rx_buffer l i) 2048
buffer_held l w i h low = unit_lies l (present w).base (present w).memory h.layout.good rx_buffers i low

-- what lies in memory does not leave it
no_past : {A : Type 0} (w : World) (addr len : ℕ)
    → IsTrue (leaves (present w).base (present w).memory addr len)
    → LiesIn (present w).base (present w).memory addr len → A
no_past w addr len past held =
    absurd (let not_so : false ≡ true = sym (stays_in (present w).base (present w).memory addr len held) ∙ past in cc)

-- from the look at the packet on
packet_order : (l : Layout) (i count len : ℕ) (queue : List (List ℕ)) (more : List (List ℕ) → Course Answered)
    (w v : World) (events : ℕ) (a : Answered) → IsUndisturbed l w → i ≡ first l (present w)
    → is_filled l (present w) (first l (present w)) ≡ true → len ≡ length_of (rx_at l (present w) (first l (present w)))
    → ((x : World) (others : ℕ) (packet : List ℕ) → IsUndisturbed l x → following l.rx_count i ≡ first l
    (present x)
    → Follows x (more (queue ++ packet ∷ [])) others a v → Receives l x v (queue ++ packet ∷ []) a)
    → Follows w (rx_packet l i count queue len more) events a v → Receives l w v queue a
unfolding Follows
packet_order l i count len queue more w v events a h at filled long rest (inl end) =
    memory_sound l w v queue count a end.answer_is (order_none l w v h end.world_is)
packet_order l i count len queue more w v events a h at filled long rest (inr (inl (past, none, is))) =
    let p = passed_by l w v h past.passes in
    let low = following_in l.rx_count (rdt (present w)) h.driven.but.receiving.tail in
    let held = buffer_held l v (first l (present w)) (passed_but l w v p) low in
    let usual = h.driven.but.receiving.lengths (first l (present w)) low filled in
    no_past v (rx_buffer l i) len past.past (record {
      from = omega (arith, held.from, ap (rx_buffer l) at);
      to = omega (arith, held.to, usual.most, long, ap (rx_buffer l) at);
    })
packet_order l i count len queue more w v events a h at filled long rest
    (inr (inr (octets, m, peeks, inl (why, refused, none, is)))) =
    let p = passed_by l w m h peeks.passes in
    let hm = still_undisturbed l w m h p in
    let q = passed_by l m v hm refused.passes in
    let low = following_in l.rx_count (rdt (present w)) h.driven.but.receiving.tail in
    let held = descriptor_held l v (first l (present w)) (passed_but l m v q) low in
    let only : why ≡ refusal.Memory
    = poke_refused (present v) (rx_descriptor l i + 12) (0 ∷ []) why
    (record {
      from = omega (arith, held.from, ap (rx_descriptor l) at);
      to = omega (arith, held.to, ap (rx_descriptor l) at);
    })
    (omega arith) (omega arith) refused.refuses in
    memory_sound l w v queue count a (is ∙ ap (λ x. (queue, stopped count (cause_of x))) only)
    (order_on l w m v [] [] [] [] (order_passes l w m h peeks.passes) (order_passes l m v hm refused.passes))
packet_order l i count len queue more w v events a h at filled long rest (inr (inr (octets, m, peeks, inr cleared))) =
    let p = passed_by l w m h peeks.passes in
    let hm = still_undisturbed l w m h p in
    let there : first l (present m) ≡ first l (present w) = first_same l (present w)
    (present m) p.holds.receiving.tail in
    let filled_m : is_filled l (present m) (first l (present m)) ≡ true
    = ap (is_filled l (present m)) there ∙ p.holds.receiving.filled filled in
    let given = cleared.more in
    let t = took l i m cleared.mid given.mid hm (at ∙ sym there) filled_m cleared.step given.step in
    let whole : octets ≡ rx_packet_at l (present m) (first l (present m))
    = peeks.gives
    ∙ (λ k. part (present m).memory (rx_buffer l ((at ∙ sym there) k)) (long k))
    ∙ ap (λ d. part (present m).memory (rx_buffer l (first l (present m))) (length_of d))
    (sym (p.holds.receiving.descriptor filled) ∙ ap (rx_at l (present m)) (sym there)) in
    let left = rest given.mid given.others octets t.order.undisturbed
    (ap (following l.rx_count) (at ∙ sym there) ∙ sym t.next) given.more in
    let order : InOrder l m given.mid (octets ∷ []) []
    = subst (λ x. InOrder l m given.mid (x ∷ []) []) (sym whole) t.order in
    record {
      packets = octets ∷ left.packets;
      appended = left.appended ∙ append_assoc queue (octets ∷ []) left.packets;
      order = order_on l w m v [] [] (octets ∷ left.packets) [] (order_passes l w m h peeks.passes)
          (order_on l m given.mid v (octets ∷ []) [] left.packets [] order left.order);
      sound = left.sound;
    }

-- by the mark of the first descriptor
mark_says : (b : Bool) (d : List ℕ) → IsMarked b d → is_done d ≡ true → b ≡ true
mark_says true d m e = refl
mark_says false d m e = absurd (let not_so : true ≡ false = sym e ∙ m in cc)

by_mark : (b : Bool) (d : List ℕ) → IsMarked b d → b ≡ true → IsMarked true d
by_mark b d m e = subst (λ x. IsMarked x d) e m

looked_order : (l : Layout) (i count : ℕ) (queue : List (List ℕ)) (more : List (List ℕ) → Course Answered)
    (w v : World) (events : ℕ) (a : Answered) (d : List ℕ) (x y : Bool) → IsUndisturbed l w
    → i ≡ first l (present w) → d ≡ rx_at l (present w) (first l (present w)) → is_done d ≡ x → is_whole d ≡ y
    → ((u : World) (others : ℕ) (packet : List ℕ) → IsUndisturbed l u → following l.rx_count i ≡ first l
    (present u)
    → Follows u (more (queue ++ packet ∷ [])) others a v → Receives l u v (queue ++ packet ∷ []) a)
    → Follows w (if not x then done (queue, received count) else if not y then done (queue, stopped count Broken)
    else rx_packet l i count queue (length_of d) more) events a v
    → Receives l w v queue a
unfolding Follows
looked_order l i count queue more w v events a d false y h at is x_is y_is rest end =
    received_none l w v queue a (ap (λ z. z.0) end.answer_is) (order_none l w v h end.world_is)
    (subst (λ (z : Answered). IsSound z.1) (sym end.answer_is) tt)
looked_order l i count queue more w v events a d true false h at is x_is y_is rest end =
    let s = present w in
    let j : ℕ = first l s in
    let low = following_in l.rx_count (rdt s) h.driven.but.receiving.tail in
    let filled = mark_says (is_filled l s j) (rx_at l s j) h.driven.marked (ap is_done (sym is) ∙ x_is) in
    let whole : is_whole (rx_at l s j) ≡ true
    = marked_whole (rx_at l s j) (by_mark (is_filled l s j) (rx_at l s j) h.driven.marked filled)
    (h.driven.but.receiving.lengths j low filled) in
    absurd (let not_so : true ≡ false = sym whole ∙ ap is_whole (sym is) ∙ y_is in cc)
looked_order l i count queue more w v events a d true true h at is x_is y_is rest f =
    let s = present w in
    let j : ℕ = first l s in
    let filled = mark_says (is_filled l s j) (rx_at l s j) h.driven.marked (ap is_done (sym is) ∙ x_is) in
    packet_order l i count (length_of d) queue more w v events a h at filled (ap length_of is) rest f

-- from descriptor i on, the first one
pub rx_order : (l : Layout) (left i count : ℕ) (queue : List (List ℕ)) (w v : World) (events : ℕ) (a : Answered)
    → IsUndisturbed l w → i ≡ first l (present w) → Follows w (rx_from l left i count queue) events a v
    → Receives l w v queue a
unfolding Follows rx_from
rx_order l zero i count queue w v events a h at end =
    received_none l w v queue a (ap (λ z. z.0) end.answer_is) (order_none l w v h end.world_is)
    (subst (λ (z : Answered). IsSound z.1) (sym end.answer_is) tt)
rx_order l (suc left) i count queue w v events a h at (inl (past, none, is)) =
    let p = passed_by l w v h past.passes in
    let held = descriptor_held l v (first l (present w)) (passed_but l w v p)
    (following_in l.rx_count (rdt (present w)) h.driven.but.receiving.tail) in
    no_past v (rx_descriptor l i) 16 past.past (record {
      from = omega (arith, held.from, ap (rx_descriptor l) at);
      to = omega (arith, held.to, ap (rx_descriptor l) at);
    })
rx_order l (suc left) i count queue w v events a h at (inr (d, m, peeks, f)) =
    let p = passed_by l w m h peeks.passes in
    let there : first l (present m) ≡ first l (present w) = first_same l (present w)
    (present m) p.holds.receiving.tail in
    let at_m : i ≡ first l (present m) = at ∙ sym there in
    received_on l w m v queue a (order_passes l w m h peeks.passes)
    (looked_order l i count queue (rx_from l left (following l.rx_count i) (count + 1)) m v events a d (is_done d)
    (is_whole d)
    (still_undisturbed l w m h p) at_m (peeks.gives ∙ ap (rx_at l (present m)) at_m) refl refl
    (λ x others packet hx next g. rx_order l left (following l.rx_count i) (count + 1)
    (queue ++ packet ∷ []) x v others a hx next g)
    f)

-- ---- a whole call

pub rx_batch_order : (l : Layout) (number n : ℕ) (queue : List (List ℕ)) (w v : World) (events : ℕ) (a : Answered)
    → IsUndisturbed l w → Follows w (rx_batch l number n queue) events a v → Receives l w v queue a
unfolding Follows rx_batch
rx_batch_order l (suc number) n queue w v events a h end =
    received_none l w v queue a (ap (λ z. z.0) end.answer_is) (order_none l w v h end.world_is)
    (subst (λ (z : Answered). IsSound z.1) (sym end.answer_is) (λ e. cc))
rx_batch_order l zero zero queue w v events a h end =
    received_none l w v queue a (ap (λ z. z.0) end.answer_is) (order_none l w v h end.world_is)
    (subst (λ (z : Answered). IsSound z.1) (sym end.answer_is) tt)
rx_batch_order l zero (suc n) queue w v events a h (tail, step) =
    let m : World = step.mid in
    let order = order_read l w m (offset_of Rdt) (Value tail) h step.step in
    let s = present step.step.mid in
    let gives : tail ≡ rdt s = read_gives s (present m) (offset_of Rdt) tail Rdt
    (λ p. reg_of-offset_of p Rdt (omega arith) refl) step.step.does.0 in
    let same = (read_keeps s (present m) (offset_of Rdt) (Value tail) step.step.does.0).registers in
    let is : tail ≡ rdt (present m) = gives ∙ sym (ap (λ r. value_of r Rdt) same) in
    let below : nat_lt tail l.rx_count ≡ true
    = lt-ltb tail l.rx_count (omega (arith, is, order.undisturbed.driven.but.receiving.tail)) in
    received_on l w m v queue a order
    (rx_order l (min (suc n) 65536) (following l.rx_count tail) 0 queue m v step.others a order.undisturbed
    (ap (following l.rx_count) is)
    (subst (λ b. Follows m (if b then rx_from l (min (suc n) 65536) (following l.rx_count tail) 0 queue
    else done (queue, stopped 0 Broken)) step.others a v) below step.more))
