-- The receive engine's steps one after another, as steps of the whole adapter.
use Rattle.std.proofs.Common.{◌≡◌, ℕ, suc, zero, ◌^◌, ◌<◌, ◌≤◌, ◌==◌, ◌||◌, not, Bool, true, false, nat_le}
use Rattle.std.proofs.Common.{if◌then◌else◌, List, ◌∷◌, length, refl, sym, ap, subst, ◌∙◌, arith, Result}
use Rattle.std.proofs.Common.{Ok, Err}
use Rattle.std.proofs.lemmas.Bool.Decides.{nat_tests}
use Rattle.em_mem.specs.Memory.{leaves}
use Rattle.em_regs.specs.declared.setup.RxSetup.{RxSetup}
use Rattle.em_regs.specs.Setup.{has, rx_setup}
use Rattle.em_regs.specs.RegFile.{put}
use Rattle.em_regs.specs.Storage.{Registers}
use Rattle.em_regs.specs.Table.{offset_of}
use Rattle.em_regs.specs.declared.profile.Profile.{Profile}
use Rattle.em_regs.specs.declared.reg.Reg.TheVariants.{Rctl, Rah, Ral, Rdh}
use Rattle.em_regs.proofs.Entries.{at-insert_other}
use Rattle.em_regs.specs.Ring as ring
use Rattle.em_rx.specs.Frame.{Frame}
use Rattle.em_rx.specs.Fifo.{Fifo}
use Rattle.em_rx.specs.Receive.{Outcome, delivery, descriptor_at, following, is_idle, is_outside, receive}
use Rattle.em_rx.specs.declared.control.RxControl.{RxControl}
use Rattle.em_rx.specs.Pieces as rx
use Rattle.em_rx.specs.Pieces.{Engine, GoesInPieces, IsDelivered, after_step, after_steps, and_then}
use Rattle.em_rx.specs.declared.step.RxAnswer.{RxAnswer}
use Rattle.em_rx.specs.declared.step.RxAnswer.TheVariants.{Idle, Wrote}
use Rattle.em_rx.specs.declared.refusal.RxRefusal.{RxRefusal}
use Rattle.em_rx.specs.declared.refusal.RxRefusal.TheVariants.{DmaRange}
use Rattle.em_rx.proofs.PieceLaws as rx_laws
use Rattle.em_step.specs.Engines.{after_rx_answer, comes_inexact, received, rx_control, rx_stepped, with_outcome}
use Rattle.em_step.proofs.InexactLaws.{comes_same}
use Rattle.em_filter.proofs.InexactLaws.{AgreeInExact}
use Rattle.em_step.specs.Event.{receives}
use Rattle.em_step_laws.specs.Pieces.{AreReceived}
use Rattle.em_step_laws.specs.Reached.{IsReached}
use Rattle.em_step.specs.State.{State}
use Rattle.em_step.specs.Step.{step}
use Rattle.em_step.specs.declared.event.Answer.{Answer}
use Rattle.em_step_laws.proofs.ReachedLaws.{few_reached}
use Rattle.em_step.proofs.SetupLaws.{rx_setup-head}

-- what the receive engine works on, where it is said how the oldest frame comes past the filters
abbrev pub engine_of : Bool → State → Engine
engine_of inexact s = record {
  control = record { setup = rx_setup s.registers; profile = s.profile; inexact = inexact };
  base = s.base;
  memory = s.memory;
  fifo = s.fifo;
}

-- what says that of a frame is the same in both states
record IsAlike (s u : State) : Type 0 where
  profile : u.profile ≡ s.profile
  exact : AgreeInExact s.registers u.registers

exact_after : (m : Registers) (v : ℕ) → AgreeInExact m (put m Rdh v)
exact_after m v = record {
  bam = ap (λ (x : ℕ). has x (2 ^ 15)) (at-insert_other m (offset_of Rdh) _ (offset_of Rctl) (λ e. omega arith));
  ral = λ i. at-insert_other m (offset_of Rdh) _ (offset_of (Ral i)) (λ e. omega (arith, e));
  rah = λ i. at-insert_other m (offset_of Rdh) _ (offset_of (Rah i)) (λ e. omega (arith, e));
}

exact_on : (m n : Registers) (v : ℕ) → AgreeInExact m n → AgreeInExact m (put n Rdh v)
exact_on m n v h =
    let on = exact_after n v in
    record { bam = on.bam ∙ h.bam; ral = λ i. on.ral i ∙ h.ral i; rah = λ i. on.rah i ∙ h.rah i }

alike_after : (s u : State) (o : Outcome) (a : RxAnswer) → IsAlike s u → IsAlike s (after_rx_answer (with_outcome u o) a).1
alike_after s u o Idle h = record { profile = h.profile; exact = h.exact }
alike_after s u o (Wrote index next causes) h =
    record { profile = h.profile; exact = exact_on s.registers u.registers next h.exact }

-- ---- where a step goes on to
-- a step that writes is not idle
wrote_delivery : (idle out far : Bool) (m : List ℕ) (f : Fifo) (wrote o : Outcome) (index next causes : ℕ) →
    (
    if idle then Ok (record { answer = Idle; memory = m; fifo = f })
    else if out then Err DmaRange
    else if far then Err DmaRange
    else Ok wrote
    ) ≡ Ok o →
    o.answer ≡ Wrote index next causes → (idle ≡ false) × (wrote.answer ≡ Wrote index next causes)
wrote_delivery true out far m f wrote o index next causes is answer = cc
wrote_delivery false true far m f wrote o index next causes is answer = cc
wrote_delivery false false true m f wrote o index next causes is answer = cc
wrote_delivery false false false m f wrote o index next causes is answer = (refl, cc)

head_within : (a b c d e : Bool) → (a || b || c || d || e) ≡ false → b ≡ false
head_within true b c d e is = cc
head_within false true c d e is = cc
head_within false false c d e is = refl

following_within : (h n : ℕ) → h < n → ring.following n h < n
following_within h n less = grind (arith, nat_tests)

-- and goes on to a descriptor of the ring
next_within : (q : RxControl) (base : ℕ) (m : List ℕ) (f : Fifo) (o : Outcome) (index next causes : ℕ) →
    receive q base m f ≡ Ok o →
    o.answer ≡ Wrote index next causes → next < q.setup.count
next_within q base m f o index next causes is answer =
    let p : RxSetup = q.setup in
    let out : Bool = leaves base m (descriptor_at q) 16 in
    let far : Bool = is_outside q base m f in
    let wrote = wrote_delivery (is_idle q f) out far m f (delivery q m f) o index next causes is answer in
    let test : nat_le p.count p.head ≡ false
    = head_within (not p.enabled) (nat_le p.count p.head) (nat_le p.count p.tail) (p.head == p.tail)
    (length f.frames == 0) wrote.0 in
    let less : p.head < p.count = grind (arith, nat_tests) in
    let there : following p ≡ next = cc in
    subst (λ (n : ℕ). n < p.count) there (following_within p.head p.count less)

-- ---- one step
-- what was done first was not refused
not_refused : {A B : Type 0} (f : A → Result B RxRefusal) (x : Result A RxRefusal) (y : B) → and_then f x ≡ Ok y →
    (a : A) × (x ≡ Ok a) × (f a ≡ Ok y)
not_refused f (Ok a) y is = (a, refl, is)
not_refused f (Err refusal) y is = cc

-- the adapter's engine after an answer
engine_after : (inexact : Bool) (u : State) (o : Outcome) (a : RxAnswer) →
    ((index next causes : ℕ) → a ≡ Wrote index next causes → next < 65_536) →
    engine_of inexact (after_rx_answer (with_outcome u o) a).1
    ≡ rx.with_outcome (engine_of inexact u) (record { answer = a; memory = o.memory; fifo = o.fifo })
engine_after inexact u o Idle below = refl
engine_after inexact u o (Wrote index next causes) below =
    λ i. record {
      control = record {
        setup = rx_setup-head u.registers next (below index next causes refl) i;
        profile = u.profile;
        inexact = inexact;
      };
      base = u.base;
      memory = o.memory;
      fifo = o.fifo;
    }

one_step : (s u : State) (e : Engine) (inexact : Bool) → (rx_setup u.registers).count ≤ 65_536 → IsAlike s u →
    (rx_control u).inexact ≡ inexact → after_step (engine_of inexact u) ≡ Ok e →
    (t : State) × ((answer : Answer) × (step u receives ≡ Ok (answer, t)))
    × (engine_of inexact t ≡ e) × IsAlike s t × (e.control.setup.count ≡ (rx_setup u.registers).count)
one_step s u e inexact few alike told is =
    let q : RxControl = (engine_of inexact u).control in
    let goes_on : Outcome → Result Engine RxRefusal = λ o. Ok (rx.with_outcome (engine_of inexact u) o) in
    let (o, done, on) = not_refused goes_on (receive q u.base u.memory u.fifo) e is in
    let left : rx.with_outcome (engine_of inexact u) o ≡ e = cc in
    let after = after_rx_answer (with_outcome u o) o.answer in
    let here : received u ≡ Ok o
    = ap (λ (b : Bool). receive (engine_of b u).control u.base u.memory u.fifo) told ∙ done in
    let below = λ (index next causes : ℕ) (answer : o.answer ≡ Wrote index next causes).
    let inside : next < q.setup.count = next_within q u.base u.memory u.fifo o index next causes done answer in
    (let r : next < 65_536 = omega (arith, inside, few) in r) in (
      after.1,
      (after.0, ap (rx_stepped u) here),
      engine_after inexact u o o.answer below ∙ left,
      alike_after s u o o.answer alike,
      ap (λ (x : Engine). x.control.setup.count) (sym left),
    )

-- ---- steps
module _ (s : State) (frame : Frame) (frames : List Frame) where
  -- how the frame comes past the filters
  abbrev b : Bool
  b = comes_inexact s.profile s.registers (frame ∷ frames)

  -- so long it is the oldest one
  abbrev StaysFirst : ℕ → Type 0
  StaysFirst j = (k : ℕ) → k < j → (e : Engine) → after_steps k (engine_of b s) ≡ Ok e → e.fifo.frames ≡ frame ∷ frames

  told_by : (u : State) (e : Engine) → IsAlike s u → engine_of b u ≡ e → e.fifo.frames ≡ frame ∷ frames →
      (rx_control u).inexact ≡ b
  told_by u e alike engine first =
      let here : u.fifo.frames ≡ frame ∷ frames = ap (λ (x : Engine). x.fifo.frames) engine ∙ first in
      ap (comes_inexact u.profile u.registers) here
      ∙ ap (λ (p : Profile). comes_inexact p u.registers (frame ∷ frames)) alike.profile
      ∙ comes_same s.profile s.registers u.registers (frame ∷ frames) alike.exact

  lifted : (rx_setup s.registers).count ≤ 65_536 → (j : ℕ) → StaysFirst j → (k : ℕ) → k ≤ j → (e : Engine) →
      after_steps k (engine_of b s) ≡ Ok e →
      (t : State) × AreReceived k s t × (engine_of b t ≡ e) × IsAlike s t
      × (e.control.setup.count ≡ (rx_setup s.registers).count)
  lifted few j stays zero most e is =
      let same : engine_of b s ≡ e = cc in
      let exact : AgreeInExact s.registers s.registers = record { bam = refl; ral = λ i. refl; rah = λ i. refl } in
      let alike : IsAlike s s = record { profile = refl; exact = exact } in
      (s, refl, same, alike, ap (λ (x : Engine). x.control.setup.count) (sym same))
  lifted few j stays (suc k) most e is =
      let (m, first, last) = not_refused after_step (after_steps k (engine_of b s)) e is in
      let (u, steps, engine, alike, count) = lifted few j stays k (omega (arith, most)) m first in
      let counted : (rx_setup u.registers).count ≡ (rx_setup s.registers).count
      = ap (λ (x : Engine). x.control.setup.count) engine ∙ count in
      let still : (rx_setup u.registers).count ≤ 65_536 = omega (arith, counted, few) in
      let told = told_by u m alike engine (stays k (omega (arith, most)) m first) in
      let (t, stepped, there, after, now) = one_step s u e b still alike told (ap after_step engine ∙ last) in (
        t,
        (u, steps, stepped),
        there,
        after,
        now ∙ counted,
      )

-- a frame that goes in j pieces is in its buffers after j receive steps
pub pieces : (s : State) (frame : Frame) (frames : List Frame) (j : ℕ) → IsReached s →
    GoesInPieces (rx_control s) s.base s.memory frame j →
    s.fifo ≡ record { frames = frame ∷ frames; taken = 0 } →
    (t : State) × AreReceived j s t × (t.fifo ≡ record { frames = frames; taken = 0 })
    × ((i : ℕ) → i < j → IsDelivered (rx_control s) s.memory t.memory frame j i)
pieces s frame frames j reached fit holds =
    let few : (rx_setup s.registers).count ≤ 65_536 = few_reached s reached in
    let q : RxControl = rx_control s in
    let inexact : Bool = comes_inexact s.profile s.registers (frame ∷ frames) in
    let told : q ≡ (engine_of inexact s).control
    = λ i. record {
      setup = rx_setup s.registers;
      profile = s.profile;
      inexact = comes_inexact s.profile s.registers (holds i).frames;
    } in
    let here : (let x : Engine = record { control = q; base = s.base; memory = s.memory; fifo = s.fifo } in x)
    ≡ engine_of inexact s
    = λ i. record { control = told i; base = s.base; memory = s.memory; fifo = s.fifo } in
    let (e, is, gone, done) = rx_laws.pieces q s.base s.memory frame frames j fit s.fifo holds in
    let stays : StaysFirst s frame frames j
    = λ k less x ok. rx_laws.still_first q s.base s.memory frame frames j fit s.fifo holds k less x
    (ap (after_steps k) here ∙ ok) in
    let (t, steps, there, alike, count)
    = lifted s frame frames few j stays j (omega arith) e (ap (after_steps j) (sym here) ∙ is) in (
      t,
      steps,
      ap (λ (x : Engine). x.fifo) there ∙ gone,
      λ (i : ℕ) (less : i < j).
          subst (λ (x : Engine). IsDelivered q s.memory x.memory frame j i) (sym there) (done i less),
    )
