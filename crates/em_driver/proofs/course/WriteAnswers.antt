-- What a write to memory answers, and when the write of a register is refused.
use Rattle.std.proofs.Common.{◌≡◌, ◌∙◌, ℕ, Bool, true, false, List, Result, Ok, Err, sym, ap}
use Rattle.std.proofs.Common.{inl, inr}
use Rattle.std.proofs.Common.{if◌then◌else◌}
use Rattle.em_regs.specs.declared.profile.Profile.TheVariants.{Table}
use Rattle.em_regs.specs.Table.{IsRegOf, offset_of}
use Rattle.em_regs.specs.declared.reg.Reg.{Reg}
use Rattle.em_regs.proofs.TableLaws.{reg_at-offset_of}
use Rattle.em_step.specs.Access.{after_write, is_reset}
use Rattle.em_step.specs.Event.{writes, pokes}
use Rattle.em_step.specs.State.{State}
use Rattle.em_step.specs.Step.{step, resets, Refuses}
use Rattle.em_step.proofs.Registers.{write_step}
use Rattle.em_journal.proofs.ProfileLaws.{in_each}
use Rattle.em_step.specs.declared.event.Answer.{Answer}
use Rattle.em_step.specs.declared.event.Answer.TheVariants.{Done}
use Rattle.em_step.specs.declared.refusal.Refusal.{Refusal}
use Rattle.em_step.specs.declared.refusal.Refusal.TheVariants.{Memory, Range, Length}

ok_same : {T E : Type 0} (x y : T) → ◌≡◌ {A = Result T E} (Ok x) (Ok y) → x ≡ y
ok_same x y h = cc

err_not_ok : {T E : Type 0} (e : E) (x : T) → ◌≡◌ {A = Result T E} (Err e) (Ok x) → ⊥
err_not_ok e x h = cc

-- a write of a register is refused for memory alone, and only where it resets
pub write_refused : (s : State) (reg : Reg) (v : ℕ) (refusal : Refusal) → IsRegOf Table reg
    → Refuses s (writes (offset_of reg) v) refusal → (refusal ≡ Memory) × (is_reset reg v ≡ true)
write_refused s reg v refusal is (inl lack) =
    (lack.0, sym (ap (λ r. resets r v) (reg_at-offset_of reg is.0)) ∙ lack.1)
write_refused s reg v refusal is (inr e) =
    absurd (err_not_ok refusal (Done, after_write s reg v) (sym e ∙ write_step s reg v is.0 (in_each reg s.profile is).1))

-- ---- memory writes

abbrev poked : Bool → Bool → State → Result (Answer × State) Refusal
poked long bad u = if long then Err Range else if bad then Err Length else Ok (Done, u)

poke_done : (long bad : Bool) (t u : State) (answer : Answer)
    → poked long bad u ≡ Ok (answer, t) → answer ≡ Done
poke_done true bad t u answer e = absurd (err_not_ok Range (answer, t) e)
poke_done false true t u answer e = absurd (err_not_ok Length (answer, t) e)
poke_done false false t u answer e = sym (ap (λ p. p.0) (ok_same (Done, u) (answer, t) e))

pub poke_answer : (s t : State) (addr : ℕ) (octets : List ℕ) (answer : Answer)
    → step s (pokes addr octets) ≡ Ok (answer, t) → answer ≡ Done
poke_answer s t addr octets answer e = poke_done _ _ t _ answer e
