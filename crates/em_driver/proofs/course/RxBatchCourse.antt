-- How the course of rx_batch is followed.
use Rattle.std.proofs.Common.{◌≡◌, ◌≢◌, ◌∙◌, ℕ, zero, suc, ◌+◌, ◌*◌, ◌<◌, ◌≤◌, min, Bool, true, false, not, List, []}
use Rattle.std.proofs.Common.{◌∷◌, ◌++◌, Vec, Global, Ok, Err, refl, sym, ap, subst, arith, if◌then◌else◌}
use Rattle.std.specs.Prelude.{nat_lt}
use Rattle.std.proofs.lemmas.Bool.Decides.{nat_tests}
use Rattle.std.proofs.lemmas.List.{map-append}
use Rattle.em_regs.specs.Table.{offset_of}
use Rattle.em_regs.specs.declared.reg.Reg.TheVariants.{Rdt}
use Rattle.em_step.specs.Event.{reads, writes, pokes}
use Rattle.em_step.specs.declared.event.Answer.TheVariants.{Value, Done}
use Rattle.em_step.specs.declared.refusal.Refusal.{Refusal}
use Rattle.em_driver.specs.Course.{Course, done, Follows, Comes}
use Rattle.em_driver.specs.Descriptor.{length_of, is_done, is_whole}
use Rattle.em_driver.specs.Outcome.{cause_of}
use Rattle.em_regs.specs.Ring.{following}
use Rattle.em_driver.specs.Receive.{Answered, rx_descriptor, rx_buffer, received, stop_after}
use Rattle.em_turn.specs.Planned.{lists}
use Rattle.em_driver.specs.Receive.{stopped, rx_packet, rx_from, rx_batch, Takes, Leaves, TakesOrNot, StopsAt}
use Rattle.em_driver.specs.World.{World, Accesses, IsRefused, Peeks, PeeksPast}
use Rattle.em_driver.specs.declared.layout.Layout.{Layout}
use Rattle.em_driver.specs.declared.outcome.Stopped.{Stopped}
use Rattle.em_driver.specs.declared.outcome.Cause.{Cause}
use Rattle.em_driver.specs.declared.outcome.Cause.TheVariants.{Memory, Queue, Broken}
use Rattle.em_driver.proofs.course.CourseSteps.{ends, room_on, room_stops, peeks_on, peek_stops, poke_stops, follows_as}
use Rattle.em_driver.proofs.course.CourseSteps.{comes_both, comes_as, comes_on, comes_read, comes_room, comes_peek}
use Rattle.em_driver.proofs.course.CourseSteps.{comes_poke, comes_write}

-- ---- one packet, once its length is known

pub no_room : (l : Layout) (i len : ℕ) (w : World) {before now : List (List ℕ)} → now ≡ before
    → Leaves Memory l i len w w before now
no_room l i len w {before = before} same count more =
    follows_as w w _ 0 0 _ _ (room_stops w (before, stopped count Memory) _) refl
    (ap (λ q. (q, stopped count Memory)) same)

pub not_seen : (l : Layout) (i : ℕ) {len n addr : ℕ} {w v : World} {before now : List (List ℕ)} → now ≡ before
    → n ≡ len → addr ≡ rx_buffer l i → PeeksPast w addr n v → Leaves Broken l i len w v before now
not_seen l i {len = len} {n = n} {addr = addr} {w = w} {v = v} {before = before} same long at past count more =
    let past : PeeksPast w (rx_buffer l i) n v = subst (λ a. PeeksPast w a n v) at past in
    let past : PeeksPast w (rx_buffer l i) len v = subst (λ k. PeeksPast w (rx_buffer l i) k v) long past in
    follows_as w v _ 0 0 _ _
    (room_on w v _ _ 0 _ (peek_stops w v (rx_buffer l i) len (before, stopped count Broken) _ past)) refl
    (ap (λ q. (q, stopped count Broken)) same)

-- the packet was looked at
pub seen : (l : Layout) (i : ℕ) {len n addr : ℕ} {w m : World} {packet : List ℕ} → n ≡ len → addr ≡ rx_buffer l i
    → Peeks w addr n packet m → Peeks w (rx_buffer l i) len packet m
seen l i {n = n} {w = w} {m = m} {packet = packet} long at peeks =
    subst (λ k. Peeks w (rx_buffer l i) k packet m) long (subst (λ a. Peeks w a n packet m) at peeks)

pub not_cleared : (l : Layout) (i : ℕ) {len addr : ℕ} {w m v : World} {packet : List ℕ} {refusal : Refusal} {cause : Cause}
    {before now : List (List ℕ)} → now ≡ before → Peeks w (rx_buffer l i) len packet m
    → addr ≡ rx_descriptor l i + 12 → IsRefused m (pokes addr (0 ∷ [])) refusal v → cause ≡ cause_of refusal
    → Leaves cause l i len w v before now
not_cleared l i {len = len} {w = w} {m = m} {v = v} {packet = packet} {refusal = refusal} {cause = cause} {before = before} same peeks at refused is count more =
    let refused : IsRefused m (pokes (rx_descriptor l i + 12) (0 ∷ [])) refusal v
    = subst (λ a. IsRefused m (pokes a (0 ∷ [])) refusal v) at refused in
    room_on w v _ _ 0 _ (peeks_on w m v (rx_buffer l i) len _ _ packet 0 _ peeks
    (poke_stops m v (rx_descriptor l i + 12) (0 ∷ []) _ _ refusal refused
    (ap (λ q. (q, stopped count cause)) same ∙ ap (λ x. (before, stopped count x)) is)))

pub taken : (l : Layout) (i len addr : ℕ) (w m u v : World) (packet : List ℕ) (before now : List (List ℕ))
    → now ≡ before ++ packet ∷ [] → Peeks w (rx_buffer l i) len packet m → addr ≡ rx_descriptor l i + 12
    → Accesses m (pokes addr (0 ∷ [])) Done u → Accesses u (writes (offset_of Rdt) i) Done v
    → Takes l i len w v before now
taken l i len addr w m u v packet before now pushed peeks at cleared given count more =
    let cleared : Accesses m (pokes (rx_descriptor l i + 12) (0 ∷ [])) Done u
    = subst (λ a. Accesses m (pokes a (0 ∷ [])) Done u) at cleared in
    comes_as w v _ _ _ 2 2
    (comes_both w w v _ _ _ 0 2 2 (comes_room w _ _) refl
    (comes_both w m v _ _ _ 0 2 2 (comes_peek w m (rx_buffer l i) len _ _ packet peeks) refl
    (comes_both m u v _ _ _ 1 1 2 (comes_poke m u (rx_descriptor l i + 12) (0 ∷ []) _ _ cleared) refl
    (comes_write u v Rdt i _ given)))) refl (ap more pushed)

-- what was pushed, as octets
pub pushed : (now mid was : List (Vec ℕ Global)) (x : Vec ℕ Global) (octets : List ℕ) → now ≡ mid ++ x ∷ []
    → mid ≡ was → x.items ≡ octets → lists now ≡ lists was ++ octets ∷ []
pushed now mid was x octets e f g =
    ap lists e ∙ ap (λ m. lists (m ++ x ∷ [])) f ∙ map-append (λ v. v.items) was (x ∷ [])
    ∙ ap (λ o. lists was ++ o ∷ []) g

-- ---- one packet, from the look at its descriptor on

pub ring_ends : (l : Layout) (i : ℕ) {addr : ℕ} {w v : World} (queue : List (List ℕ)) → addr ≡ rx_descriptor l i
    → PeeksPast w addr 16 v → StopsAt Broken l i w v queue queue
unfolding rx_from
ring_ends l i {w = w} {v = v} queue at past left count =
    peek_stops w v (rx_descriptor l i) 16 _ _ (subst (λ a. PeeksPast w a 16 v) at past)

-- what the course is by what the descriptor says
abbrev pub by_descriptor : Layout → ℕ → ℕ → ℕ → List (List ℕ) → List ℕ → Bool → Bool → Course Answered
by_descriptor l left i count queue d is_done is_whole =
    if not is_done then done (queue, received count)
    else if not is_whole then done (queue, stopped count Broken)
    else rx_packet l i count queue (length_of d) (rx_from l left (following l.rx_count i) (count + 1))

pub looked : (l : Layout) (left i count addr : ℕ) (w m : World) (queue : List (List ℕ)) (d : List ℕ) (a b : Bool)
    → addr ≡ rx_descriptor l i → Peeks w addr 16 d m → is_done d ≡ a → is_whole d ≡ b
    → Comes w (rx_from l (suc left) i count queue) 0 m (by_descriptor l left i count queue d a b)
unfolding rx_from
looked l left i count addr w m queue d a b at peeks is_a is_b =
    comes_as w m _ _ _ 0 0
    (comes_peek w m (rx_descriptor l i) 16 _ _ d (subst (λ x. Peeks w x 16 d m) at peeks)) refl
    (ap (λ x. by_descriptor l left i count queue d x b) (sym is_a)
    ∙ ap (λ x. by_descriptor l left i count queue d (is_done d) x) (sym is_b))

pub none_there : (l : Layout) (i : ℕ) {addr : ℕ} {w m : World} (queue : List (List ℕ)) {d : List ℕ}
    → addr ≡ rx_descriptor l i → Peeks w addr 16 d m → is_done d ≡ false → TakesOrNot false l i w m queue queue
none_there l i {addr = addr} {w = w} {m = m} queue {d = d} at peeks none left count =
    comes_on w m m _ _ 0 0 0 _ (looked l left i count addr w m queue d false (is_whole d) at peeks none refl) refl
    (ends m (queue, received count))

pub not_whole : (l : Layout) (i : ℕ) {addr : ℕ} {w m : World} (queue : List (List ℕ)) {d : List ℕ}
    → addr ≡ rx_descriptor l i → Peeks w addr 16 d m → is_done d ≡ true → is_whole d ≡ false
    → StopsAt Broken l i w m queue queue
not_whole l i {addr = addr} {w = w} {m = m} queue {d = d} at peeks is_done part left count =
    comes_on w m m _ _ 0 0 0 _ (looked l left i count addr w m queue d true false at peeks is_done part) refl
    (ends m (queue, stopped count Broken))

pub left_there : (l : Layout) (i : ℕ) {addr len : ℕ} (cause : Cause) {w m : World} (v : World) (before now : List (List ℕ))
    {d : List ℕ} → addr ≡ rx_descriptor l i → Peeks w addr 16 d m → is_done d ≡ true → is_whole d ≡ true
    → len ≡ length_of d → Leaves cause l i len m v before now → StopsAt cause l i w v before now
left_there l i {addr = addr} cause {w = w} {m = m} v before now {d = d} at peeks is_done whole long leaves left count =
    let leaves : Leaves cause l i (length_of d) m v before now
    = subst (λ k. Leaves cause l i k m v before now) long leaves in
    comes_on w m v _ _ 0 0 0 _ (looked l left i count addr w m before d true true at peeks is_done whole) refl
    (leaves count (rx_from l left (following l.rx_count i) (count + 1)))

pub took_there : (l : Layout) (i : ℕ) {addr len : ℕ} {w m : World} (v : World) (before now : List (List ℕ)) {d : List ℕ}
    → addr ≡ rx_descriptor l i → Peeks w addr 16 d m → is_done d ≡ true → is_whole d ≡ true → len ≡ length_of d
    → Takes l i len m v before now → TakesOrNot true l i w v before now
took_there l i {addr = addr} {w = w} {m = m} v before now {d = d} at peeks is_done whole long takes left count =
    let takes : Takes l i (length_of d) m v before now = subst (λ k. Takes l i k m v before now) long takes in
    comes_both w m v _ _ _ 0 2 2 (looked l left i count addr w m before d true true at peeks is_done whole) refl
    (takes count (rx_from l left (following l.rx_count i) (count + 1)))

-- ---- a whole call

lt_true : (a b : ℕ) → a < b → nat_lt a b ≡ true
lt_true a b h = grind (arith, nat_tests)

following_within : (count i : ℕ) (b : Bool) → nat_lt (i + 1) count ≡ b → i < count
    → (if b then i + 1 else 0) < count
following_within count i true e h = grind (arith, nat_tests)
following_within count i false e h = omega arith

lt_false : (a b : ℕ) → b ≤ a → nat_lt a b ≡ false
lt_false a b h = grind (arith, nat_tests)

pub following_below : {count i j : ℕ} → j ≡ following count i → i < count → j < count
following_below {count = count} {i = i} e h =
    subst (λ x. x < count) (sym e) (following_within count i (nat_lt (i + 1) count) refl h)

pub other_queue : (l : Layout) (number n : ℕ) (queue : List (List ℕ)) (w : World) → number ≢ 0
    → Follows w (rx_batch l number n queue) 0 (queue, Err record { count = 0; events = 0; cause = Queue }) w
unfolding rx_batch
other_queue l zero n queue w h = absurd (h refl)
other_queue l (suc number) n queue w h = ends w _

pub no_packets : (l : Layout) (number n : ℕ) (queue : List (List ℕ)) (w : World) → number ≡ 0 → n ≡ 0
    → Follows w (rx_batch l number n queue) 0 (queue, Ok record { count = 0; events = 0 }) w
unfolding rx_batch
no_packets l zero zero queue w h e = ends w _
no_packets l zero (suc n) queue w h e = cc
no_packets l (suc number) n queue w h e = cc

-- what the course is by the tail that was read
abbrev pub by_tail : Layout → ℕ → ℕ → List (List ℕ) → Bool → Course Answered
by_tail l n tail queue is_below =
    if is_below then rx_from l (min n 65536) (following l.rx_count tail) 0 queue
    else done (queue, stopped 0 Broken)

opened_as : (l : Layout) (number n tail : ℕ) (queue : List (List ℕ)) (w v : World) (b : Bool)
    → number ≡ 0 → n ≢ 0 → nat_lt tail l.rx_count ≡ b → Accesses w (reads (offset_of Rdt)) (Value tail) v
    → Comes w (rx_batch l number n queue) 1 v (by_tail l n tail queue b)
unfolding rx_batch
opened_as l (suc number) n tail queue w v b h e below step = cc
opened_as l zero zero tail queue w v b h e below step = absurd (e refl)
opened_as l zero (suc n) tail queue w v b h e below step =
    comes_as w v _ _ _ 1 1 (comes_read w v Rdt _ tail step) refl (ap (by_tail l (suc n) tail queue) (sym below))

pub opened : (l : Layout) (number n tail left i : ℕ) (queue : List (List ℕ)) (w v : World)
    → number ≡ 0 → n ≢ 0 → tail < l.rx_count → left ≡ min n 65536 → i ≡ following l.rx_count tail
    → Accesses w (reads (offset_of Rdt)) (Value tail) v
    → Comes w (rx_batch l number n queue) 1 v (rx_from l left i 0 queue)
opened l number n tail left i queue w v h e below many at step =
    comes_as w v _ _ _ 1 1 (opened_as l number n tail queue w v true h e (lt_true tail l.rx_count below) step) refl
    (ap (λ k. rx_from l k i 0 queue) many ∙ ap (λ j. rx_from l (min n 65536) j 0 queue) at)

pub broken_tail : (l : Layout) {number n tail : ℕ} (queue : List (List ℕ)) {w v : World} {stop : Stopped}
    → number ≡ 0 → n ≢ 0 → l.rx_count ≤ tail → stop ≡ stop_after 0 Broken
    → Accesses w (reads (offset_of Rdt)) (Value tail) v
    → Follows w (rx_batch l number n queue) stop.events (queue, Err stop) v
broken_tail l {number = number} {n = n} {tail = tail} queue {w = w} {v = v} h e past is step =
    subst (λ s. Follows w (rx_batch l number n queue) s.events (queue, Err s) v) (sym is)
    (comes_on w v v _ _ 1 0 1 _ (opened_as l number n tail queue w v false h e (lt_false tail l.rx_count past) step)
    refl (ends v (queue, stopped 0 Broken)))

-- the call has come so far that `left` packets may follow `count`
abbrev pub Going : World → Layout → ℕ → ℕ → ℕ → ℕ → ℕ → World → List (List ℕ) → List (List ℕ) → Type 0
Going w l number n left i count v before now =
    Comes w (rx_batch l number n before) (1 + 2 * count) v (rx_from l left i count now)

pub goes_on : (l k : Layout) (number n left rest i j count : ℕ) (w v u : World) (before mid now : List (List ℕ))
    → k ≡ l → left ≡ suc rest → j ≡ following l.rx_count i → Going w l number n left i count v before mid
    → TakesOrNot true k i v u mid now → Going w l number n rest j (count + 1) u before now
goes_on l k number n left rest i j count w v u before mid now same one at going takes =
    let takes : TakesOrNot true l i v u mid now = subst (λ x. TakesOrNot true x i v u mid now) same takes in
    let going : Going w l number n (suc rest) i count v before mid
    = subst (λ x. Going w l number n x i count v before mid) one going in
    subst (λ x. Going w l number n rest x (count + 1) u before now) (sym at)
    (comes_both w v u _ _ _ (1 + 2 * count) 2 (1 + 2 * (count + 1)) going (omega arith) (takes rest count))

pub goes_to_the_end : (l : Layout) (number n left i count : ℕ) (w v : World) (before now : List (List ℕ)) → left ≡ 0
    → Going w l number n left i count v before now
    → Follows w (rx_batch l number n before) (1 + 2 * count) (now, received count) v
unfolding rx_from
goes_to_the_end l number n zero i count w v before now none going =
    comes_on w v v _ _ (1 + 2 * count) 0 (1 + 2 * count) _ going (omega arith) (ends v (now, received count))
goes_to_the_end l number n (suc left) i count w v before now none going = cc

pub goes_no_further : (l k : Layout) (number n left rest i count : ℕ) (w v u : World)
    (before mid now : List (List ℕ)) → k ≡ l → left ≡ suc rest → Going w l number n left i count v before mid
    → TakesOrNot false k i v u mid now
    → Follows w (rx_batch l number n before) (1 + 2 * count) (now, received count) u
goes_no_further l k number n left rest i count w v u before mid now same one going none =
    let none : TakesOrNot false l i v u mid now = subst (λ x. TakesOrNot false x i v u mid now) same none in
    let going : Going w l number n (suc rest) i count v before mid
    = subst (λ x. Going w l number n x i count v before mid) one going in
    comes_on w v u _ _ (1 + 2 * count) 0 (1 + 2 * count) _ going (omega arith) (none rest count)

pub goes_and_stops : (l k : Layout) (number n left rest i count : ℕ) (cause : Cause) (stop : Stopped) (w v u : World)
    (before mid now : List (List ℕ)) → k ≡ l → left ≡ suc rest → stop ≡ stop_after count cause
    → Going w l number n left i count v before mid → StopsAt cause k i v u mid now
    → Follows w (rx_batch l number n before) stop.events (now, Err stop) u
goes_and_stops l k number n left rest i count cause stop w v u before mid now same one is going stops =
    let stops : StopsAt cause l i v u mid now = subst (λ x. StopsAt cause x i v u mid now) same stops in
    let going : Going w l number n (suc rest) i count v before mid
    = subst (λ x. Going w l number n x i count v before mid) one going in
    subst (λ s. Follows w (rx_batch l number n before) s.events (now, Err s) u) (sym is)
    (comes_on w v u _ _ (1 + 2 * count) 0 (1 + 2 * count) _ going (omega arith) (stops rest count))
