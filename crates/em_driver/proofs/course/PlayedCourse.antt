-- A course that is followed where memory is refused nowhere is played.
use Rattle.std.proofs.Common.{◌≡◌, ◌∙◌, ◌⊎◌, ℕ, ◌+◌, Bool, true, false, ◌||◌, cond}
use Rattle.std.proofs.Common.{List, [], ◌∷◌, Result, Ok, Err, None, refl, sym, ap, ap₂, subst, inl, inr}
use Rattle.std.proofs.lemmas.Bool.{false≢true}
use Rattle.em_mem.specs.Memory.{LiesIn, leaves, part}
use Rattle.em_mem.proofs.NeedsLaws.{stays_in}
use Rattle.em_regs.specs.Table.{offset_of}
use Rattle.em_regs.specs.declared.reg.Reg.TheVariants.{Ctrl}
use Rattle.em_step.specs.Event.{Event, reads, writes, pokes}
use Rattle.em_step.specs.State.{State}
use Rattle.em_step.specs.Step.{step, Refuses}
use Rattle.em_step.specs.declared.event.Answer.{Answer}
use Rattle.em_step.specs.declared.event.Answer.TheVariants.{Done}
use Rattle.em_step.specs.declared.refusal.Refusal.{Refusal}
use Rattle.em_step.specs.declared.refusal.Refusal.TheVariants.{Memory}
use Rattle.em_turn.specs.Turn.{event_of}
use Rattle.em_turn.specs.declared.turn.Turn.{Turn}
use Rattle.em_driver.specs.World.{World, present, after_outcome, after_turn, after_turns, after_others, first, rest}
use Rattle.em_driver.specs.World.{IsTaken, Passes}
use Rattle.em_driver.specs.World.{Accesses}
use Rattle.em_driver.specs.Course.{Course, done, read, write, reset, peek, poke, room, Follows}
use Rattle.em_driver.specs.Play.{Played, ended, counted, passed, after_access, performed, value_of, unless_refused}
use Rattle.em_driver.specs.Play.{play, TellsApart}
use Rattle.em_driver.proofs.course.FirstList.{none_beside, planning}

-- ---- an access

-- no turn that is performed or skipped starves
outcome_starved : (w : World) (t : Turn) (r : Result (Answer × State) Refusal)
    → (after_outcome w t r).starved ≡ w.starved
outcome_starved w t (Ok r) = refl
outcome_starved w t (Err refusal) = refl

turns_starved : (w : World) (turns : List Turn) → (after_turns w turns).starved ≡ w.starved
turns_starved w [] = refl
turns_starved w (t ∷ turns) =
    turns_starved (after_turn w t) turns ∙ outcome_starved w t (step (present w) (event_of t))

-- no turn changes who acts beside the plan
outcome_spared : (w : World) (t : Turn) (r : Result (Answer × State) Refusal) → (after_outcome w t r).spared ≡ w.spared
outcome_spared w t (Ok r) = refl
outcome_spared w t (Err refusal) = refl

turns_spared : (w : World) (turns : List Turn) → (after_turns w turns).spared ≡ w.spared
turns_spared w [] = refl
turns_spared w (t ∷ turns) =
    turns_spared (after_turn w t) turns ∙ outcome_spared w t (step (present w) (event_of t))

-- where no turn starved the others took all of theirs
pass_taken : (w v : World) (turns : List Turn) → v ≡ record (after_turns w turns) { plan = v.plan; starved = v.starved }
    → IsTaken w turns v → v.starved ≡ false → (v ≡ passed w) × (w.starved ≡ false)
pass_taken w v turns is (inr starves) fed = absurd (false≢true (sym fed ∙ starves.2))
pass_taken w v turns is (inl taken) fed =
    let made : List Turn → List (List Turn) → Bool → World
    = λ ts plan starved. record (after_turns w ts) { plan = plan; starved = starved } in
    let starved = taken.2 ∙ sym (turns_starved w (first w.plan)) in (
      is ∙ ap (λ ts. made ts v.plan v.starved) taken.0 ∙ ap (λ plan. made (first w.plan) plan v.starved) taken.1
          ∙ ap (made (first w.plan) (rest w.plan)) starved,
      sym taken.2 ∙ fed,
    )

-- what passes where nobody acts beside the plan
pass_is : (w v : World) → w.spared ≡ None → Passes w v → v.starved ≡ false → (v ≡ passed w) × (w.starved ≡ false)
pass_is w v alone passes fed =
    let none = none_beside w.spared passes.events alone passes.spare in
    let mid : World = after_turns w passes.turns in
    let is = passes.is ∙ ap (λ events. planning v.plan v.starved (after_others mid events)) none in
    pass_taken w v passes.turns is passes.taken fed

-- an access that is performed: the table gives its answer and its machine
access_is : (w v : World) {e : Event} {answer : Answer} → w.spared ≡ None → Accesses w e answer v → v.starved ≡ false
    → (v ≡ performed (passed w) e) × (w.starved ≡ false)
    × ((t : State) × (step (present (passed w)) e ≡ Ok (answer, t)))
access_is w v {e = e} {answer = answer} alone access fed =
    let m = access.mid in
    let here = pass_is w m alone access.passes (sym (ap (λ x. x.starved) access.is) ∙ fed) in
    let stepped = access.does.0 in
    let is : v ≡ performed m e =
    access.is ∙ ap (λ machine. record m { machine = machine }) access.does.1
    ∙ ap (after_access m e) (sym stepped) in (
      is ∙ ap (λ x. performed x e) here.0,
      here.1,
      (v.machine.present, subst (λ x. step (present x) e ≡ Ok (answer, v.machine.present)) here.0 stepped),
    )

-- ---- a course

-- nobody acts beside the plan when the others have acted, nor then
passed_alone : (w v : World) → w.spared ≡ None → Passes w v → v.spared ≡ None
passed_alone w v alone passes =
    let none = none_beside w.spared passes.events alone passes.spare in
    ap (λ x. x.spared) passes.is
    ∙ ap (λ events. (after_others (after_turns w passes.turns) events).spared) none
    ∙ turns_spared w passes.turns ∙ alone

accessed_alone : (w v : World) {e : Event} {answer : Answer} → w.spared ≡ None → Accesses w e answer v
    → v.spared ≡ None
accessed_alone w v alone access = ap (λ x. x.spared) access.is ∙ passed_alone w access.mid alone access.passes

-- where a turn starved, it is so to the end of the call
pub was_fed : {A : Type 0} (course : Course A) (w v : World) (n : ℕ) (a : A) → Follows w course n a v
    → w.spared ≡ None → v.starved ≡ false → w.starved ≡ false
unfolding Follows
was_fed (done answer) w v n a h alone fed = sym (ap (λ x. x.starved) h.world_is) ∙ fed
was_fed (read reg next) w v n a h alone fed =
    let mid = accessed_alone w h.1.mid alone h.1.step in
    (access_is w h.1.mid alone h.1.step (was_fed (next h.0) h.1.mid v h.1.others a h.1.more mid fed)).1
was_fed (write reg value more) w v n a h alone fed =
    let mid = accessed_alone w h.mid alone h.step in
    (access_is w h.mid alone h.step (was_fed more h.mid v h.others a h.more mid fed)).1
was_fed (reset stopped more) w v n a (inl h) alone fed = (pass_is w v alone h.0.passes fed).1
was_fed (reset stopped more) w v n a (inr h) alone fed =
    let mid = accessed_alone w h.mid alone h.step in
    (access_is w h.mid alone h.step (was_fed more h.mid v h.others a h.more mid fed)).1
was_fed (peek addr len stopped next) w v n a (inl h) alone fed = (pass_is w v alone h.0.passes fed).1
was_fed (peek addr len stopped next) w v n a (inr h) alone fed =
    let mid = passed_alone w h.1 alone h.2.passes in
    (pass_is w h.1 alone h.2.passes (was_fed (next h.0) h.1 v n a h.3 mid fed)).1
was_fed (poke addr octets stopped more) w v n a (inl h) alone fed = (pass_is w v alone h.1.passes fed).1
was_fed (poke addr octets stopped more) w v n a (inr h) alone fed =
    let mid = accessed_alone w h.mid alone h.step in
    (access_is w h.mid alone h.step (was_fed more h.mid v h.others a h.more mid fed)).1
was_fed (room stopped more) w v n a (inl h) alone fed = sym (ap (λ x. x.starved) h.world_is) ∙ fed
was_fed (room stopped more) w v n a (inr h) alone fed = was_fed more w v n a h alone fed

-- one event more
counted_is : {A : Type 0} (r : Result (Answer × State) Refusal) (ok : Answer × State) (p : Played A) (v : World)
    (n k : ℕ) (a : A) → r ≡ Ok ok → p ≡ record { events = k; answer = a; world = v } → n ≡ 1 + k
    → counted r p ≡ record { events = n; answer = a; world = v }
counted_is r ok p v n k a is e count =
    ap₂ counted is e ∙ ap (λ x. record { events = x; answer = a; world = v }) (sym count)

-- nothing more
ended_is : {A : Type 0} (m v : World) (n : ℕ) (a b : A) → v ≡ m → n ≡ 0 → a ≡ b
    → ended m b ≡ record { events = n; answer = a; world = v }
ended_is m v n a b at count is = rw (at, count, is) refl

-- an answer that says so, and does not
said : {A T : Type 0} {t u : T} (says : A → Bool) (x a : A) → a ≡ x → says x ≡ true → says a ≡ false → t ≡ u
said says x a is holds fails = absurd (false≢true (sym fails ∙ ap says is ∙ holds))

-- octets that leave memory
past_is : {A : Type 0} (m v : World) (addr len n : ℕ) (a stopped : A) (more : Played A) → v ≡ m
    → leaves (present v).base (present v).memory addr len ≡ true → n ≡ 0 → a ≡ stopped
    → cond (leaves (present m).base (present m).memory addr len) (ended m stopped) more
    ≡ record { events = n; answer = a; world = v }
past_is m v addr len n a stopped more at past count is =
    let past = subst (λ x. leaves (present x).base (present x).memory addr len ≡ true) at past in
    ap (λ b. cond b (ended m stopped) more) past ∙ ended_is m v n a stopped at count is

-- octets that memory has
held_is : {A : Type 0} (m : World) (addr len : ℕ) (p more other : Played A)
    → LiesIn (present m).base (present m).memory addr len → more ≡ p
    → cond (leaves (present m).base (present m).memory addr len) other more ≡ p
held_is m addr len p more other held is =
    ap (λ b. cond b other more) (stays_in (present m).base (present m).memory addr len held) ∙ is

-- the bus was refused no memory: it can't be, or the answer says so
abbrev pub IsAmple : {A : Type 0} → (A → Bool) → A → World → Type 0
IsAmple bus a v = (bus a ≡ false) ⊎ (v.scarce ≡ false)

-- an answer that says that it was
wanted : {A T : Type 0} {t u : T} (bus : A → Bool) (x a : A) (v : World) → a ≡ x → bus x ≡ true → v.scarce ≡ true
    → IsAmple bus a v → t ≡ u
wanted bus x a v is holds scarce (inl none) = said bus x a is holds none
wanted bus x a v is holds scarce (inr ample) = absurd (false≢true (sym ample ∙ scarce))

-- a memory write that is refused, but not for memory
refused_is : {A : Type 0} (bus : A → Bool) (stopped : Refusal → A) (m v : World) (e : Event) (refusal : Refusal)
    (n : ℕ) (a : A) (more : Played A) → v ≡ m → Refuses (present v) e refusal → (refusal ≡ Memory → v.scarce ≡ true)
    → n ≡ 0 → a ≡ stopped refusal → bus (stopped Memory) ≡ true → IsAmple bus a v
    → unless_refused m stopped (step (present m) e) more ≡ record { events = n; answer = a; world = v }
refused_is bus stopped m v e refusal n a more at (inl lack) asked count is holds ample =
    wanted bus (stopped Memory) a v (is ∙ ap stopped lack.0) holds (asked lack.0) ample
refused_is bus stopped m v e refusal n a more at (inr refused) asked count is holds ample =
    let here : step (present m) e ≡ Err refusal = ap (λ x. step (present x) e) (sym at) ∙ refused in
    ap (λ r. unless_refused m stopped r more) here ∙ ended_is m v n a (stopped refusal) at count is

-- a memory write that is performed
performed_is : {A : Type 0} (stopped : Refusal → A) (m : World) (r : Result (Answer × State) Refusal) (more : Played A)
    (answer : Answer) (t : State) → r ≡ Ok (answer, t) → unless_refused m stopped r more ≡ counted (Ok (answer, t)) more
performed_is stopped m r more answer t is = ap (λ x. unless_refused m stopped x more) is

-- of two tests
pub neither : (a b : Bool) → (a || b) ≡ false → (a ≡ false) × (b ≡ false)
neither true b h = absurd (false≢true (sym h))
neither false b h = (refl, h)

-- where memory was refused neither to the call, nor to its bus, nor to a turn
pub followed_is_played : {A : Type 0} (bus own : A → Bool) (course : Course A) (w v : World) (n : ℕ) (a : A)
    → TellsApart bus own course → Follows w course n a v → w.spared ≡ None → own a ≡ false → IsAmple bus a v
    → v.starved ≡ false
    → play w course ≡ record { events = n; answer = a; world = v }
unfolding Follows play TellsApart
followed_is_played bus own (done answer) w v n a tells h alone none ample fed =
    ended_is w v n a answer h.world_is h.events_are h.answer_is
followed_is_played bus own (read reg next) w v n a tells h alone none ample fed =
    let then = h.1 in
    let mid = accessed_alone w then.mid alone then.step in
    let is = access_is w then.mid alone then.step (was_fed (next h.0) then.mid v then.others a then.more mid fed) in
    let more = followed_is_played bus own (next h.0) then.mid v then.others a (tells h.0) then.more mid none ample
    fed in
    let value : h.0 ≡ value_of (step (present (passed w)) (reads (offset_of reg))) = sym (ap value_of is.2.1) in
    let m = passed w in
    let e = reads (offset_of reg) in
    let r = step (present m) e in
    counted_is r _ (play (performed m e) (next (value_of r))) v n then.others a is.2.1
    (ap₂ (λ m x. play m (next x)) (sym is.0) (sym value) ∙ more) then.count
followed_is_played bus own (write reg value more) w v n a tells h alone none ample fed =
    let mid = accessed_alone w h.mid alone h.step in
    let is = access_is w h.mid alone h.step (was_fed more h.mid v h.others a h.more mid fed) in
    let m = passed w in
    let e = writes (offset_of reg) value in
    counted_is (step (present m) e) _ (play (performed m e) more) v n h.others a is.2.1
    (ap (λ m. play m more) (sym is.0)
    ∙ followed_is_played bus own more h.mid v h.others a tells h.more mid none ample fed) h.count
followed_is_played bus own (reset stopped more) w v n a tells (inl h) alone none ample fed =
    wanted bus _ a v h.2 tells.0 (h.0.asked refl) ample
followed_is_played bus own (reset stopped more) w v n a tells (inr h) alone none ample fed =
    let mid = accessed_alone w h.mid alone h.step in
    let is = access_is w h.mid alone h.step (was_fed more h.mid v h.others a h.more mid fed) in
    let m = passed w in
    let e = writes (offset_of Ctrl) 0x0400_0000 in
    counted_is (step (present m) e) _ (play (performed m e) more) v n h.others a is.2.1
    (ap (λ m. play m more) (sym is.0)
    ∙ followed_is_played bus own more h.mid v h.others a tells.1 h.more mid none ample fed) h.count
followed_is_played bus own (peek addr len stopped next) w v n a tells (inl h) alone none ample fed =
    let m = passed w in
    past_is m v addr len n a stopped (play m (next (part (present m).memory addr len))) (pass_is w v alone h.0.passes fed).0
    h.0.past h.1 h.2
followed_is_played bus own (peek addr len stopped next) w v n a tells (inr h) alone none ample fed =
    let m = h.1 in
    let mid = passed_alone w m alone h.2.passes in
    let is = pass_is w m alone h.2.passes (was_fed (next h.0) m v n a h.3 mid fed) in
    let more = followed_is_played bus own (next h.0) m v n a (tells h.0) h.3 mid none ample fed in
    let octets = h.2.gives ∙ ap (λ x. part (present x).memory addr len) is.0 in
    let here = passed w in
    held_is here addr len (record { events = n; answer = a; world = v })
    (play here (next (part (present here).memory addr len))) (ended here stopped)
    (subst (λ x. LiesIn (present x).base (present x).memory addr len) is.0 h.2.held)
    (ap₂ (λ x o. play x (next o)) (sym is.0) (sym octets) ∙ more)
followed_is_played bus own (poke addr octets stopped more) w v n a tells (inl h) alone none ample fed =
    let m = passed w in
    let e = pokes addr octets in
    refused_is bus stopped m v e h.0 n a (play (performed m e) more) (pass_is w v alone h.1.passes fed).0 h.1.refuses
    h.1.asked h.2 h.3 tells.0 ample
followed_is_played bus own (poke addr octets stopped more) w v n a tells (inr h) alone none ample fed =
    let mid = accessed_alone w h.mid alone h.step in
    let is = access_is w h.mid alone h.step (was_fed more h.mid v h.others a h.more mid fed) in
    let m = passed w in
    let e = pokes addr octets in
    let rest = play (performed m e) more in
    performed_is stopped m (step (present m) e) rest Done is.2.0 is.2.1
    ∙ counted_is (Ok (Done, is.2.0)) _ rest v n h.others a refl
    (ap (λ m. play m more) (sym is.0)
    ∙ followed_is_played bus own more h.mid v h.others a tells.1 h.more mid none ample fed) h.count
followed_is_played bus own (room stopped more) w v n a tells (inl h) alone none ample fed =
    said own _ a h.answer_is tells.0 none
followed_is_played bus own (room stopped more) w v n a tells (inr h) alone none ample fed =
    followed_is_played bus own more w v n a tells.1 h alone none ample fed
