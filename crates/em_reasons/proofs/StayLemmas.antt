-- As long as what a test looked at stays, a step stays idle.
use Rattle.std.proofs.Common.{◌≡◌, ◌∙◌, ℕ, zero, suc, Bool, true, false, List, [], ◌∷◌, Option, Some, refl}
use Rattle.std.proofs.Common.{length, sym, ap, subst}
use Rattle.std.specs.Prelude.{◌/◌, ◌%◌, ◌^◌, ◌==◌, ◌&&◌, nat_le, not, is_some, slice_get, if◌then◌else◌}
use Rattle.em_regs.specs.declared.profile.Profile.{Profile}
use Rattle.em_regs.specs.declared.reg.Reg.TheVariants.{Rctl, Rdlen, Rdh, Rdt, Tdlen, Tdh, Tdt}
use Rattle.em_regs.specs.Setup.{rx_setup, tx_setup, value_of}
use Rattle.em_rx.specs.Fifo.{Fifo}
use Rattle.em_step.specs.Engines.{is_halted}
use Rattle.em_step.specs.Loops.{mac_loops}
use Rattle.em_step.specs.State.{State, is_adapter}
use Rattle.em_reasons.specs.Looks.{rx_idle_looks, tx_idle_looks}
use Rattle.em_reasons.specs.SameLooks.{SameLooks}
use Rattle.em_reasons.specs.Table.{first_of}
use Rattle.em_reasons.specs.declared.rx_idle.RxIdle.{RxIdle}
use Rattle.em_reasons.specs.declared.tx_idle.TxIdle.{TxIdle}
use Rattle.em_reasons.specs.RxIdle.{IsIdleReceiving, rx_idle, rx_idle_table}
use Rattle.em_reasons.specs.TxIdle.{IsIdleSending, tx_idle, tx_idle_table}
use Rattle.em_reasons.proofs.BitLemmas.{field_same}
use Rattle.em_reasons.proofs.LinkLemmas.{link_same}
use Rattle.em_reasons.proofs.TableLemmas.{gives_first}
use Rattle.em_reasons.proofs.IdleLemmas.{rx_idle_where, tx_idle_where}

-- a row of a table
abbrev pub row : {A : Type 0} → Bool → A → Option (Bool × A)
row b x = Some (b, x)

pub row_is : {A : Type 0} (x y : A) → Some x ≡ Some y → x ≡ y
row_is x y h = cc

-- a table with a test that holds gives a reason
some_if : {A : Type 0} (b : Bool) (x : A) (o : Option A) → b ≡ true → is_some (if b then Some x else o) ≡ true
some_if true x o h = refl
some_if false x o h = cc

some_behind : {A : Type 0} (b : Bool) (x : A) (o : Option A) → is_some o ≡ true
    → is_some (if b then Some x else o) ≡ true
some_behind true x o h = refl
some_behind false x o h = h

pub some_where : {A : Type 0} (rows : List (Bool × A)) (k : ℕ) (at : Bool × A) → slice_get rows k ≡ Some at
    → at.0 ≡ true → is_some (first_of rows) ≡ true
some_where [] k at is holds = cc
some_where {A = A} (first ∷ rows) zero at is holds =
    some_if first.0 first.1 (first_of rows) (ap (λ (r : Bool × A). r.0) (row_is first at is) ∙ holds)
some_where (first ∷ rows) (suc k) at is holds =
    some_behind first.0 first.1 (first_of rows) (some_where rows k at is holds)

-- ---- receive steps
abbrev rx_rows : State → List (Bool × RxIdle)
rx_rows s = rx_idle_table (rx_setup s.registers) (length s.fifo.frames)

rx_holds : (s : State) (b : Bool) (x r : RxIdle) → row b x ≡ row true r → b ≡ true
rx_holds s b x r h = ap (λ (p : Bool × RxIdle). p.0) (row_is (b, x) (true, r) h)

rx_same : (s t : State) (b : Bool) (x r : RxIdle) → row b x ≡ row true r → SameLooks s t (rx_idle_looks r)
    → SameLooks s t (rx_idle_looks x)
rx_same s t b x r h =
    subst (λ (y : RxIdle). SameLooks s t (rx_idle_looks y))
    (sym (ap (λ (p : Bool × RxIdle). p.1) (row_is (b, x) (true, r) h)))

rx_again : (s t : State) (k : ℕ) (r : RxIdle) → slice_get (rx_rows s) k ≡ Some (true, r)
    → SameLooks s t (rx_idle_looks r) → is_some (rx_idle t) ≡ true
rx_again s t zero r h same =
    let looks = rx_same s t _ _ r h same in
    some_where (rx_rows t) 0 _ refl
    (ap (λ (v : ℕ). not (v == 0x2)) looks.0 ∙ rx_holds s _ _ r h)
rx_again s t (suc zero) r h same =
    let looks = rx_same s t _ _ r h same in
    some_where (rx_rows t) 1 _ refl (ap (λ (v : ℕ). (v / 16) == 0) looks.0 ∙ rx_holds s _ _ r h)
rx_again s t (suc (suc zero)) r h same =
    let looks = rx_same s t _ _ r h same in
    some_where (rx_rows t) 2 _ refl
    (ap (λ (v : ℕ). nat_le (value_of t.registers Rdlen / 16) v) looks.0
    ∙ ap (λ (v : ℕ). nat_le (v / 16) (value_of s.registers Rdh)) looks.1.0
    ∙ rx_holds s _ _ r h)
rx_again s t (suc (suc (suc zero))) r h same =
    let looks = rx_same s t _ _ r h same in
    some_where (rx_rows t) 3 _ refl
    (ap (λ (v : ℕ). nat_le (value_of t.registers Rdlen / 16) v) looks.0
    ∙ ap (λ (v : ℕ). nat_le (v / 16) (value_of s.registers Rdt)) looks.1.0
    ∙ rx_holds s _ _ r h)
rx_again s t (suc (suc (suc (suc zero)))) r h same =
    let looks = rx_same s t _ _ r h same in
    some_where (rx_rows t) 4 _ refl
    (ap (λ (v : ℕ). v == value_of t.registers Rdt) looks.0
    ∙ ap (λ (v : ℕ). value_of s.registers Rdh == v) looks.1.0
    ∙ rx_holds s _ _ r h)
rx_again s t (suc (suc (suc (suc (suc zero))))) r h same =
    let looks = rx_same s t _ _ r h same in
    some_where (rx_rows t) 5 _ refl
    (ap (λ (fifo : Fifo). length fifo.frames == 0) looks.0 ∙ rx_holds s _ _ r h)
rx_again s t (suc (suc (suc (suc (suc (suc k)))))) r h same = cc

pub stays_idle_receiving : (s t : State) (r : RxIdle) → rx_idle s ≡ Some r → SameLooks s t (rx_idle_looks r)
    → IsIdleReceiving t
stays_idle_receiving s t r is same =
    let found = (gives_first RxIdle (rx_rows s) r).0 is in
    (rx_idle_where t (rx_idle t) refl).0 (rx_again s t found.0 r found.1.holds same)

-- ---- transmit steps
abbrev tx_rows : State → List (Bool × TxIdle)
tx_rows s = tx_idle_table (tx_setup s.registers) (is_halted s)

tx_holds : (s : State) (b : Bool) (x r : TxIdle) → row b x ≡ row true r → b ≡ true
tx_holds s b x r h = ap (λ (p : Bool × TxIdle). p.0) (row_is (b, x) (true, r) h)

tx_same : (s t : State) (b : Bool) (x r : TxIdle) → row b x ≡ row true r → SameLooks s t (tx_idle_looks r)
    → SameLooks s t (tx_idle_looks x)
tx_same s t b x r h =
    subst (λ (y : TxIdle). SameLooks s t (tx_idle_looks y))
    (sym (ap (λ (p : Bool × TxIdle). p.1) (row_is (b, x) (true, r) h)))

tx_again : (s t : State) (k : ℕ) (r : TxIdle) → slice_get (tx_rows s) k ≡ Some (true, r)
    → SameLooks s t (tx_idle_looks r) → t.profile ≡ s.profile → is_some (tx_idle t) ≡ true
tx_again s t zero r h same profile =
    let looks = tx_same s t _ _ r h same in
    some_where (tx_rows t) 0 _ refl
    (ap (λ (v : ℕ). not (v == 0x2)) looks.0 ∙ tx_holds s _ _ r h)
tx_again s t (suc zero) r h same profile =
    let looks = tx_same s t _ _ r h same in
    some_where (tx_rows t) 1 _ refl (ap (λ (v : ℕ). (v / 16) == 0) looks.0 ∙ tx_holds s _ _ r h)
tx_again s t (suc (suc zero)) r h same profile =
    let looks = tx_same s t _ _ r h same in
    some_where (tx_rows t) 2 _ refl
    (ap (λ (v : ℕ). nat_le (value_of t.registers Tdlen / 16) v) looks.0
    ∙ ap (λ (v : ℕ). nat_le (v / 16) (value_of s.registers Tdh)) looks.1.0
    ∙ tx_holds s _ _ r h)
tx_again s t (suc (suc (suc zero))) r h same profile =
    let looks = tx_same s t _ _ r h same in
    some_where (tx_rows t) 3 _ refl
    (ap (λ (v : ℕ). nat_le (value_of t.registers Tdlen / 16) v) looks.0
    ∙ ap (λ (v : ℕ). nat_le (v / 16) (value_of s.registers Tdt)) looks.1.0
    ∙ tx_holds s _ _ r h)
tx_again s t (suc (suc (suc (suc zero)))) r h same profile =
    let looks = tx_same s t _ _ r h same in
    some_where (tx_rows t) 4 _ refl
    (ap (λ (v : ℕ). v == value_of t.registers Tdt) looks.0
    ∙ ap (λ (v : ℕ). value_of s.registers Tdh == v) looks.1.0
    ∙ tx_holds s _ _ r h)
tx_again s t (suc (suc (suc (suc (suc zero))))) r h same profile =
    let looks = tx_same s t _ _ r h same in
    let v = value_of t.registers Rctl in
    let w = value_of s.registers Rctl in
    let lbm : v / 2 ^ 6 % 4 ≡ w / 2 ^ 6 % 4 = field_same 2 6 v w looks.1.0 in
    some_where (tx_rows t) 5 _ refl
    (ap (λ (p : Profile). is_adapter p && (not t.link && not (mac_loops t))) profile
    ∙ ap (λ (b : Bool). is_adapter s.profile && (not b && not (mac_loops t)))
    (link_same t.profile s.profile t.link s.link looks.0)
    ∙ ap (λ (n : ℕ). is_adapter s.profile && (not s.link && not (not (n == 0)))) lbm
    ∙ tx_holds s _ _ r h)
tx_again s t (suc (suc (suc (suc (suc (suc k)))))) r h same profile = cc

pub stays_idle_sending : (s t : State) (r : TxIdle) → tx_idle s ≡ Some r → SameLooks s t (tx_idle_looks r)
    → t.profile ≡ s.profile → IsIdleSending t
stays_idle_sending s t r is same profile =
    let found = (gives_first TxIdle (tx_rows s) r).0 is in
    (tx_idle_where t (tx_idle t) refl).0 (tx_again s t found.0 r found.1.holds same profile)
