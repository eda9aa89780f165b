-- An access where no register lies.
use Rattle.std.proofs.Common.{◌≡◌, ◌∙◌, ℕ, Bool, true, cond, Option, Some, None, refl, sym, ap}
use Rattle.std.specs.Prelude.{if◌then◌else◌, Result, Ok, Err}
use Rattle.em_regs.specs.declared.profile.Profile.{Profile}
use Rattle.em_regs.specs.declared.profile.Profile.TheVariants.{Table, Adapter}
use Rattle.em_regs.specs.declared.reg.Reg.{Reg}
use Rattle.em_regs.specs.Table.{answers_at, is_in, kept_by, reg_at, reg_of, row_of}
use Rattle.em_step.specs.Access.{after_read, after_write, gives}
use Rattle.em_step.specs.Cost.{cost, least_cost, most_cost}
use Rattle.em_step.specs.Event.{reads, writes}
use Rattle.em_step.specs.State.{State}
use Rattle.em_step.specs.Step.{at_none, at_register, resets, step}
use Rattle.em_step.specs.declared.event.Answer.{Answer}
use Rattle.em_step.specs.declared.event.Answer.TheVariants.{Done, Value}
use Rattle.em_step.specs.declared.refusal.Refusal.{Refusal}
use Rattle.em_step.specs.declared.refusal.Refusal.TheVariants.{NoRegister}

-- what comes of it, by whether the profile answers
abbrev answered : State → Answer → Bool → Result (Answer × State) Refusal
answered s a b = if b then Ok (a, s) else Err NoRegister

pub read_as : (s : State) (o : ℕ) (b : Bool) → reg_of s.profile o ≡ None → answers_at s.profile o ≡ b
    → step s (reads o) ≡ answered s (Value 0) b
read_as s o b none answers =
    ap (λ r. at_register r (λ q. (Value (gives s q), after_read s q)) (at_none s o (Value 0))) none
    ∙ ap (answered s (Value 0)) answers

pub write_as : (s : State) (o v : ℕ) (b : Bool) → reg_of s.profile o ≡ None → answers_at s.profile o ≡ b
    → step s (writes o v) ≡ answered s Done b
write_as s o v b none answers =
    ap (λ r. at_register r (λ q. (Done, after_write s q v)) (at_none s o Done)) none
    ∙ ap (answered s Done) answers

-- ---- no row at all has a word there, so the write does not reset
every : (since : Profile) → is_in since Adapter ≡ true
every Table = refl
every Adapter = refl

absent : (p : Profile) (found : Option Reg) (o : ℕ) → kept_by p found ≡ None → answers_at p o ≡ true → found ≡ None
absent Table found o none answers = cc
absent Adapter None o none answers = refl
absent Adapter (Some reg) o none answers =
    let kept : kept_by Adapter (Some reg) ≡ Some reg
    = ap (λ (b : Bool). cond b (Some reg) None) (every (row_of reg).since) in
    let e : ◌≡◌ {A = Option Reg} (Some reg) None = sym kept ∙ none in
    cc

pub write_cost : (s : State) (o v : ℕ) → reg_of s.profile o ≡ None → answers_at s.profile o ≡ true
    → cost s (writes o v) ≡ least_cost
write_cost s o v none answers =
    ap (λ (r : Option Reg). if resets r v then most_cost else least_cost) (absent s.profile (reg_at o) o none answers)
