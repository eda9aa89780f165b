-- The tables of the idle steps beside the steps.
use Rattle.std.proofs.Common.{◌≡◌, ℕ, Bool, true, false, List, length, Option, Some, None, Result, Ok, Err, refl}
use Rattle.std.proofs.Common.{sym, ap}
use Rattle.std.proofs.Common.{◌∙◌, arith, subst}
use Rattle.std.specs.Prelude.{[], ◌∷◌, ◌==◌, ◌||◌, ◌↔◌, nat_le, not, is_some, IsSome, if◌then◌else◌}
use Rattle.std.proofs.lemmas.Bool.Decides.{nat_tests}
use Rattle.em_mem.specs.Memory.{leaves}
use Rattle.em_regs.specs.declared.setup.RxSetup.{RxSetup}
use Rattle.em_regs.specs.declared.setup.TxSetup.{TxSetup}
use Rattle.em_regs.specs.Setup.{rx_setup, tx_setup}
use Rattle.em_rx.specs.Fifo.{Fifo}
use Rattle.em_rx.specs.Receive as rx
use Rattle.em_rx.specs.declared.control.RxControl.{RxControl}
use Rattle.em_rx.specs.declared.step.RxAnswer.TheVariants as rx_answer
use Rattle.em_rx.specs.declared.refusal.RxRefusal.TheVariants as rx_refusal
use Rattle.em_tx.specs.Cells.{Shown}
use Rattle.em_tx.specs.Control.{first, is_still}
use Rattle.em_tx.specs.Engine.{gather, handle, refusal, sends, transmit, unless}
use Rattle.em_tx.specs.Engine as engine
use Rattle.em_tx.specs.Frame.{frame}
use Rattle.em_tx.specs.Ring as tx
use Rattle.em_tx.specs.Engine.{IsHandled}
use Rattle.em_tx.specs.declared.answer.TxAnswer.{TxAnswer}
use Rattle.em_tx.specs.declared.answer.TxAnswer.TheVariants as tx_answer
use Rattle.em_tx.specs.declared.control.TxControl.{TxControl}
use Rattle.em_tx.specs.declared.refusal.TxRefusal.{TxRefusal}
use Rattle.em_tx.specs.declared.refusal.TxRefusal.TheVariants as tx_refusal
use Rattle.em_tx.proofs.EngineLaws.{transmit-idle}
use Rattle.em_step.specs.Engines.{after_tx_answer, is_halted, rx_control, rx_stepped, sending, tx_control, tx_stepped, with_shown}
use Rattle.em_step.specs.State.{State}
use Rattle.em_step.specs.declared.event.Answer.{Answer}
use Rattle.em_step.specs.declared.event.Answer.TheVariants.{Idle, Wrote, Fetched, Sent}
use Rattle.em_step.specs.declared.refusal.Refusal.{Refusal}
use Rattle.em_reasons.specs.Table.{first_of}
use Rattle.em_reasons.specs.declared.rx_idle.RxIdle.{RxIdle}
use Rattle.em_reasons.specs.declared.tx_idle.TxIdle.{TxIdle}
use Rattle.em_reasons.specs.RxIdle.{IsIdleReceiving, rx_idle, rx_idle_table}
use Rattle.em_reasons.specs.TxIdle.{IsIdleSending, tx_idle, tx_idle_table}

-- each index is at or past a count of 0
none_within : (n k : ℕ) → (n == 0) ≡ true → nat_le n k ≡ true
none_within n k h = grind (arith, nat_tests)

-- ---- the receive engine
-- one of six tests holds, of which the second one says no more than the third
six : {A : Type 0} (on z h t e n : Bool) (r1 r2 r3 r4 r5 r6 : A) → (z ≡ true → h ≡ true)
    → is_some (first_of ((not on, r1) ∷ (z, r2) ∷ (h, r3) ∷ (t, r4) ∷ (e, r5) ∷ (n, r6) ∷ []))
    ≡ (not on || h || t || e || n)
six false z h t e n r1 r2 r3 r4 r5 r6 less = refl
six true true true t e n r1 r2 r3 r4 r5 r6 less = refl
six true true false t e n r1 r2 r3 r4 r5 r6 less = let no : false ≡ true = less refl in cc
six true false true t e n r1 r2 r3 r4 r5 r6 less = refl
six true false false true e n r1 r2 r3 r4 r5 r6 less = refl
six true false false false true n r1 r2 r3 r4 r5 r6 less = refl
six true false false false false true r1 r2 r3 r4 r5 r6 less = refl
six true false false false false false r1 r2 r3 r4 r5 r6 less = refl

pub rx_tests : (c : RxControl) (fifo : Fifo)
    → is_some (first_of (rx_idle_table c.setup (length fifo.frames))) ≡ rx.is_idle c fifo
rx_tests c fifo =
    let q : RxSetup = c.setup in
    six q.enabled (q.count == 0) (nat_le q.count q.head) (nat_le q.count q.tail) (q.head == q.tail)
    (length fifo.frames == 0) _ _ _ _ _ _ (none_within q.count q.head)

-- the answer of a step that was performed
abbrev performed : Answer × State → Result (Answer × State) Refusal
performed r = Ok r

answer_in : (a b : Answer) (s t : State) → performed (a, s) ≡ performed (b, t) → a ≡ b
answer_in a b s t h =
    let pairs : Path (Answer × State) (a, s) (b, t) = cc in ap (λ (r : Answer × State). r.0) pairs

-- a step that comes out of three tests is idle where the first holds
rx_out : (s : State) (q : RxControl) (idle a b : Bool)
    → (idle ≡ true)
    ↔ (rx_stepped s (if idle then Ok (record { answer = rx_answer.Idle; memory = s.memory; fifo = s.fifo })
    else if a then Err rx_refusal.DmaRange
    else if b then Err rx_refusal.DmaRange
    else Ok (rx.delivery q s.memory s.fifo)) ≡ Ok (Idle, s))
rx_out s q true a b = (λ h. refl, λ h. refl)
rx_out s q false true b = (λ h. cc, λ h. cc)
rx_out s q false false true = (λ h. cc, λ h. cc)
rx_out s q false false false = (λ h. cc, λ h. let same : Wrote q.setup.head ≡ Idle = answer_in _ _ _ _ h in cc)

pub rx_idle_where : (s : State) (o : Option RxIdle) → o ≡ rx_idle s → IsSome o ↔ IsIdleReceiving s
rx_idle_where s o is =
    let q = rx_control s in
    let same : is_some o ≡ rx.is_idle q s.fifo = ap is_some is ∙ rx_tests q s.fifo in
    let steps = rx_out s q (rx.is_idle q s.fifo) _ _ in
    (λ h. steps.0 (sym same ∙ h), λ h. same ∙ steps.1 h)

pub rx_idle_first : (s : State) (o : Option RxIdle) (q : RxSetup) (n : ℕ) → q ≡ rx_setup s.registers
    → n ≡ length s.fifo.frames → o ≡ first_of (rx_idle_table q n) → o ≡ rx_idle s
rx_idle_first s o q n setup count is =
    is ∙ ap (λ (p : RxSetup). first_of (rx_idle_table p n)) setup
    ∙ ap (λ (k : ℕ). first_of (rx_idle_table (rx_setup s.registers) k)) count

-- ---- the transmit engine
pub tx_tests : (q : TxSetup) (halted : Bool) → is_some (first_of (tx_idle_table q halted)) ≡ (tx.is_idle q || halted)
tx_tests q halted =
    six q.enabled (q.count == 0) (nat_le q.count q.head) (nat_le q.count q.tail) (q.head == q.tail) halted
    _ _ _ _ _ _ (none_within q.count q.head)

-- a descriptor that is handled is fetched, or its frame sent
of_sends : (b : Bool) (q : TxSetup) (d : List ℕ) (s : Shown) (f octets : List ℕ)
    → IsHandled (if b then engine.send q d s f else engine.fetch q d s octets).0
of_sends true q d s f octets = tt
of_sends false q d s f octets = tt

handled : (q : TxSetup) (d : List ℕ) (s : Shown) → IsHandled (handle q d s).0
unfolding handle
handled q d s =
    let octets = gather s d in of_sends (sends d (length octets)) q d s (frame q d octets) octets

by_tests : (range : Bool) (why : Option TxRefusal) (x r : TxAnswer × Shown) → IsHandled x.0
    → (if range then Err tx_refusal.DmaRange else unless why x) ≡ Ok r → IsHandled r.0
by_tests true why x r is same = cc
by_tests false None x r is same = let found : x ≡ r = cc in subst (λ y. IsHandled y.0) found is
by_tests false (Some refused) x r is same = cc

busy_step : (idle : Bool) (x : Result (TxAnswer × Shown) TxRefusal) (s : Shown) (r : TxAnswer × Shown) → idle ≡ false
    → (if idle then Ok (tx_answer.Idle, s) else x) ≡ Ok r → x ≡ Ok r
busy_step true x s r busy is = cc
busy_step false x s r busy is = is

-- a step that is not idle and not refused handles a descriptor
transmit_handles : (q : TxControl) (base : ℕ) (s : Shown) (r : TxAnswer × Shown) → is_still q ≡ false
    → transmit q base s ≡ Ok r
    → IsHandled r.0
unfolding transmit
transmit_handles q base s r busy is =
    let d = first q s.memory in
    by_tests (leaves base s.memory (tx.place q.setup) 16) (refusal q.profile base s.gathered s.memory d) (handle q.setup d s) r
    (handled q.setup d s) (busy_step (is_still q) _ s r busy is)

-- a step that handles a descriptor is not idle
handled_answers : (s t : State) (a : TxAnswer) → IsHandled a → after_tx_answer s a ≡ (Idle, t) → false ≡ true
handled_answers s t tx_answer.Idle is same = absurd is
handled_answers s t (tx_answer.Fetched index next causes) is same =
    let is : Fetched index ≡ Idle = ap (λ (r : Answer × State). r.0) same in cc
handled_answers s t (tx_answer.Sent index next causes octets kind) is same =
    let is : Sent index octets ≡ Idle = ap (λ (r : Answer × State). r.0) same in cc

busy_out : (s : State) (x : Result (TxAnswer × Shown) TxRefusal) → ((r : TxAnswer × Shown) → x ≡ Ok r → IsHandled r.0)
    → tx_stepped s x ≡ Ok (Idle, s) → false ≡ true
busy_out s (Ok r) handles same = handled_answers (with_shown s r.1) s r.0 (handles r refl) cc
busy_out s (Err refusal) handles same = cc

tx_out : (s : State) (idle : Bool) → is_still (tx_control s) ≡ idle
    → (idle ≡ true) ↔ (tx_stepped s (transmit (tx_control s) s.base (sending s)) ≡ Ok (Idle, s))
tx_out s true is =
    (λ h. ap (tx_stepped s) (transmit-idle (tx_control s) s.base (sending s) is), λ h. refl)
tx_out s false is = (
  λ h. cc,
  λ h. busy_out s (transmit (tx_control s) s.base (sending s))
      (λ r. transmit_handles (tx_control s) s.base (sending s) r is) h,
)

pub tx_idle_where : (s : State) (o : Option TxIdle) → o ≡ tx_idle s → IsSome o ↔ IsIdleSending s
tx_idle_where s o is =
    let same : is_some o ≡ is_still (tx_control s)
    = ap is_some is ∙ tx_tests (tx_setup s.registers) (is_halted s) in
    let steps = tx_out s (is_still (tx_control s)) refl in
    (λ h. steps.0 (sym same ∙ h), λ h. same ∙ steps.1 h)

pub tx_idle_first : (s : State) (o : Option TxIdle) (q : TxSetup) (halted : Bool) → q ≡ tx_setup s.registers
    → halted ≡ is_halted s → o ≡ first_of (tx_idle_table q halted) → o ≡ tx_idle s
tx_idle_first s o q halted setup halts is =
    is ∙ ap (λ (p : TxSetup). first_of (tx_idle_table p halted)) setup
    ∙ ap (λ (b : Bool). first_of (tx_idle_table (tx_setup s.registers) b)) halts
