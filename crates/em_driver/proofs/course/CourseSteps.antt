-- How a course is followed, one access at a time.
use Rattle.std.proofs.Common.{◌≡◌, ℕ, ◌+◌, List, refl, sym, subst, inl, inr, arith}
use Rattle.em_regs.specs.Table.{offset_of}
use Rattle.em_regs.specs.declared.reg.Reg.{Reg}
use Rattle.em_regs.specs.declared.reg.Reg.TheVariants.{Ctrl}
use Rattle.em_step.specs.Event.{reads, writes, pokes}
use Rattle.em_step.specs.declared.event.Answer.TheVariants.{Value, Done}
use Rattle.em_step.specs.declared.refusal.Refusal.{Refusal}
use Rattle.em_step.specs.declared.refusal.Refusal.TheVariants.{Memory}
use Rattle.em_driver.specs.World.{World, Accesses, IsRefused, Peeks, PeeksPast}
use Rattle.em_driver.specs.Course.{Course, done, read, write, reset, peek, poke, room, Follows, Comes}

-- ---- the end

pub ends : {A : Type 0} (w : World) (a : A) → Follows w (done a) 0 a w
unfolding Follows
ends w a = record { events_are = refl; answer_is = refl; world_is = refl }

pub ends_with : {A : Type 0} (w : World) (a b : A) → b ≡ a → Follows w (done a) 0 b w
unfolding Follows
ends_with w a b e = record { events_are = refl; answer_is = e; world_is = refl }

-- ---- registers

pub reads_on : {A : Type 0} (w m v : World) (reg : Reg) (next : ℕ → Course A) (value n k : ℕ) (a : A)
    → Accesses w (reads (offset_of reg)) (Value value) m → n ≡ 1 + k → Follows m (next value) k a v
    → Follows w (read reg next) n a v
unfolding Follows
reads_on w m v reg next value n k a step count more =
    (value, record { mid = m; others = k; step = step; count = count; more = more })

pub writes_on : {A : Type 0} (w m v : World) (reg : Reg) (value : ℕ) (more : Course A) (n k : ℕ) (a : A)
    → Accesses w (writes (offset_of reg) value) Done m → n ≡ 1 + k → Follows m more k a v
    → Follows w (write reg value more) n a v
unfolding Follows
writes_on w m v reg value rest n k a step count more =
    record { mid = m; others = k; step = step; count = count; more = more }

pub resets_on : {A : Type 0} (w m v : World) (stopped : A) (more : Course A) (n k : ℕ) (a : A)
    → Accesses w (writes (offset_of Ctrl) 0x0400_0000) Done m → n ≡ 1 + k → Follows m more k a v
    → Follows w (reset stopped more) n a v
unfolding Follows
resets_on w m v stopped rest n k a step count more =
    inr record { mid = m; others = k; step = step; count = count; more = more }

pub reset_stops : {A : Type 0} (w v : World) (stopped : A) (more : Course A)
    → IsRefused w (writes (offset_of Ctrl) 0x0400_0000) Memory v → Follows w (reset stopped more) 0 stopped v
unfolding Follows
reset_stops w v stopped more refused = inl (refused, refl, refl)

-- ---- memory

pub peeks_on : {A : Type 0} (w m v : World) (addr len : ℕ) (stopped : A) (next : List ℕ → Course A)
    (octets : List ℕ) (n : ℕ) (a : A)
    → Peeks w addr len octets m → Follows m (next octets) n a v → Follows w (peek addr len stopped next) n a v
unfolding Follows
peeks_on w m v addr len stopped next octets n a step more = inr (octets, m, step, more)

pub peek_stops : {A : Type 0} (w v : World) (addr len : ℕ) (stopped : A) (next : List ℕ → Course A)
    → PeeksPast w addr len v → Follows w (peek addr len stopped next) 0 stopped v
unfolding Follows
peek_stops w v addr len stopped next past = inl (past, refl, refl)

pub pokes_on : {A : Type 0} (w m v : World) (addr : ℕ) (octets : List ℕ) (stopped : Refusal → A) (more : Course A)
    (n k : ℕ) (a : A)
    → Accesses w (pokes addr octets) Done m → n ≡ 1 + k → Follows m more k a v
    → Follows w (poke addr octets stopped more) n a v
unfolding Follows
pokes_on w m v addr octets stopped rest n k a step count more =
    inr record { mid = m; others = k; step = step; count = count; more = more }

pub poke_stops : {A : Type 0} (w v : World) (addr : ℕ) (octets : List ℕ) (stopped : Refusal → A) (more : Course A)
    (refusal : Refusal) {a : A}
    → IsRefused w (pokes addr octets) refusal v → a ≡ stopped refusal
    → Follows w (poke addr octets stopped more) 0 a v
unfolding Follows
poke_stops w v addr octets stopped more refusal refused e = inl (refusal, refused, refl, e)

pub room_on : {A : Type 0} (w v : World) (stopped : A) (more : Course A) (n : ℕ) (a : A)
    → Follows w more n a v → Follows w (room stopped more) n a v
unfolding Follows
room_on w v stopped rest n a more = inr more

pub room_stops : {A : Type 0} (w : World) (stopped : A) (more : Course A) → Follows w (room stopped more) 0 stopped w
unfolding Follows
room_stops w stopped more = inl record { events_are = refl; answer_is = refl; world_is = refl }

-- ---- parts of a course

-- whatever answer and number of events are equal to those of a course are its
pub follows_as : {A : Type 0} (w v : World) (course : Course A) (n k : ℕ) (a b : A)
    → Follows w course n a v → k ≡ n → b ≡ a → Follows w course k b v
follows_as w v course n k a b h e f =
    subst (λ m. Follows w course m b v) (sym e) (subst (λ x. Follows w course n x v) (sym f) h)

-- a course that has come to a rest, and the rest
pub comes_on : {A : Type 0} (w m v : World) (course rest : Course A) (n k j : ℕ) (a : A)
    → Comes w course n m rest → j ≡ n + k → Follows m rest k a v → Follows w course j a v
unfolding Comes
comes_on w m v course rest n k j a h e f = follows_as w v course (n + k) j a a (h k a v f) e refl

pub comes_none : {A : Type 0} (w : World) (course : Course A) → Comes w course 0 w course
unfolding Comes
comes_none w course others a u h = follows_as w u course others (0 + others) a a h (omega arith) refl

pub comes_both : {A : Type 0} (w m v : World) (course next rest : Course A) (n k j : ℕ)
    → Comes w course n m next → j ≡ n + k → Comes m next k v rest → Comes w course j v rest
unfolding Comes
comes_both w m v course next rest n k j h e g others a u f =
    follows_as w u course (n + (k + others)) (j + others) a a (h (k + others) a u (g others a u f))
    (omega (arith, e)) refl

-- where it has come to, in other words
pub comes_as : {A : Type 0} (w v : World) (course rest other : Course A) (n k : ℕ)
    → Comes w course n v rest → k ≡ n → other ≡ rest → Comes w course k v other
comes_as w v course rest other n k h e f =
    subst (λ m. Comes w course m v other) (sym e) (subst (λ x. Comes w course n v x) (sym f) h)

pub comes_read : {A : Type 0} (w v : World) (reg : Reg) (next : ℕ → Course A) (value : ℕ)
    → Accesses w (reads (offset_of reg)) (Value value) v → Comes w (read reg next) 1 v (next value)
unfolding Comes
comes_read w v reg next value step others a u f =
    reads_on w v u reg next value (1 + others) others a step refl f

pub comes_write : {A : Type 0} (w v : World) (reg : Reg) (value : ℕ) (rest : Course A)
    → Accesses w (writes (offset_of reg) value) Done v → Comes w (write reg value rest) 1 v rest
unfolding Comes
comes_write w v reg value rest step others a u f =
    writes_on w v u reg value rest (1 + others) others a step refl f

pub comes_reset : {A : Type 0} {w v : World} (stopped : A) (rest : Course A)
    → Accesses w (writes (offset_of Ctrl) 0x0400_0000) Done v → Comes w (reset stopped rest) 1 v rest
unfolding Comes
comes_reset {w = w} {v = v} stopped rest step others a u f =
    resets_on w v u stopped rest (1 + others) others a step refl f

pub comes_peek : {A : Type 0} (w v : World) (addr len : ℕ) (stopped : A) (next : List ℕ → Course A) (octets : List ℕ)
    → Peeks w addr len octets v → Comes w (peek addr len stopped next) 0 v (next octets)
unfolding Comes
comes_peek w v addr len stopped next octets step others a u f =
    follows_as w u (peek addr len stopped next) others (0 + others) a a
    (peeks_on w v u addr len stopped next octets others a step f) (omega arith) refl

pub comes_poke : {A : Type 0} (w v : World) (addr : ℕ) (octets : List ℕ) (stopped : Refusal → A) (rest : Course A)
    → Accesses w (pokes addr octets) Done v → Comes w (poke addr octets stopped rest) 1 v rest
unfolding Comes
comes_poke w v addr octets stopped rest step others a u f =
    pokes_on w v u addr octets stopped rest (1 + others) others a step refl f

pub comes_room : {A : Type 0} (w : World) (stopped : A) (rest : Course A) → Comes w (room stopped rest) 0 w rest
unfolding Comes
comes_room w stopped rest others a u f =
    follows_as w u (room stopped rest) others (0 + others) a a (room_on w u stopped rest others a f) (omega arith) refl
