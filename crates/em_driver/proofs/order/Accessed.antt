-- What an access of a driver, or a read or a memory write of others, leaves and answers.
use Rattle.std.proofs.Common.{◌≡◌, ◌∙◌, ◌||◌, ◌==◌, ℕ, ◌≤◌, Bool, true, false, List, length}
use Rattle.std.proofs.Common.{refl, sym, ap, subst, inl, inr, arith, Option, Some, None}
use Rattle.std.proofs.Common.{Result, Ok, Err, if◌then◌else◌}
use Rattle.std.specs.Prelude.{nat_lt}
use Rattle.std.proofs.lemmas.Bool.Decides.{nat_tests}
use Rattle.em_mem.specs.Memory.{LiesIn, leaves, put}
use Rattle.em_mem.proofs.NeedsLaws.{stays_in}
use Rattle.em_regs.specs.declared.reg.Reg.{Reg}
use Rattle.em_regs.specs.RegFile as registers
use Rattle.em_regs.specs.declared.profile.Profile.{Profile}
use Rattle.em_regs.specs.Table.{answers_at, reg_of}
use Rattle.em_latch.specs.Latches as latches
use Rattle.em_latch.specs.Latches.{is_latched}
use Rattle.em_step.specs.Access.{after_read, after_write, gives}
use Rattle.em_step.specs.Event.{reads, writes, pokes}
use Rattle.em_step.specs.State.{State}
use Rattle.em_step.specs.Step.{at_none, at_register, poke, step, Refuses}
use Rattle.em_step.specs.declared.event.Answer.{Answer}
use Rattle.em_step.specs.declared.event.Answer.TheVariants.{Done, Value}
use Rattle.em_step.specs.declared.refusal.Refusal.{Refusal}
use Rattle.em_step.specs.declared.refusal.Refusal.TheVariants.{NoRegister, Range, Length, Memory}

pub ok_is : (x y : Answer × State) → ◌≡◌ {A = Result (Answer × State) Refusal} (Ok x) (Ok y) → x ≡ y
ok_is x y h = cc

-- the state after a write of a register
pub written_so : (s t : State) (o : ℕ) (reg : Reg) (v : ℕ) → ((p : Profile) → reg_of p o ≡ Some reg) → step s (writes o v) ≡ Ok (Done, t)
    → t ≡ after_write s reg v
written_so s t o reg v there h =
    let access : Reg → Answer × State = λ r. (Done, after_write s r v) in
    sym (ap (λ x. x.1) (ok_is (access reg) (Done, t) (sym (ap (λ r. at_register r access (at_none s o Done)) (there s.profile)) ∙ h)))

-- the state after a write of a register that stores it
pub written : (s t : State) (o : ℕ) (reg : Reg) (v : ℕ) → ((p : Profile) → reg_of p o ≡ Some reg) → is_latched reg ≡ false
    → ((x : State) → after_write x reg v ≡
    (if is_latched reg then x else record x { registers = registers.put x.registers reg v }))
    → step s (writes o v) ≡ Ok (Done, t) → t ≡ record s { registers = registers.put s.registers reg v }
written s t o reg v there stored by h =
    written_so s t o reg v there h ∙ by s
    ∙ ap (λ (b : Bool). if b then s else record s { registers = registers.put s.registers reg v }) stored

-- a read leaves all but the latches
pub record ReadKeeps (s t : State) : Type 0 where
  pub registers : t.registers ≡ s.registers
  pub base : t.base ≡ s.base
  pub memory : t.memory ≡ s.memory
  pub fifo : t.fifo ≡ s.fifo
  pub gathered : t.gathered ≡ s.gathered
  pub wire : t.wire ≡ s.wire
  pub profile : t.profile ≡ s.profile

keeps_by : (s : State) (reg : Reg) (b : Bool)
    → ReadKeeps s (if b then record s { latches = latches.after_read s.latches reg } else s)
keeps_by s reg true =
    record { registers = refl; base = refl; memory = refl; fifo = refl; gathered = refl; wire = refl; profile = refl }
keeps_by s reg false =
    record { registers = refl; base = refl; memory = refl; fifo = refl; gathered = refl; wire = refl; profile = refl }

-- where no register lies
lost_by : (s t : State) (answers : Bool) (a : Answer)
    → if◌then◌else◌ {A = Result (Answer × State) Refusal} answers (Ok (Value 0, s)) (Err NoRegister) ≡ Ok (a, t) → ReadKeeps s t
lost_by s t true a h =
    subst (ReadKeeps s) (ap (λ x. x.1) (ok_is (Value 0, s) (a, t) h))
    (record { registers = refl; base = refl; memory = refl; fifo = refl; gathered = refl; wire = refl; profile = refl })
lost_by s t false a h = cc

read_by : (s t : State) (o : ℕ) (r : Option Reg) (a : Answer)
    → at_register r (λ reg. (Value (gives s reg), after_read s reg)) (at_none s o (Value 0)) ≡ Ok (a, t) → ReadKeeps s t
read_by s t o None a h = lost_by s t (answers_at s.profile o) a h
read_by s t o (Some reg) a h =
    subst (ReadKeeps s) (ap (λ x. x.1) (ok_is (Value (gives s reg), after_read s reg) (a, t) h))
    (keeps_by s reg (is_latched reg))

pub read_keeps : (s t : State) (o : ℕ) (a : Answer) → step s (reads o) ≡ Ok (a, t) → ReadKeeps s t
read_keeps s t o a h = read_by s t o (reg_of s.profile o) a h

-- what is read is what the register holds
pub read_gives : (s t : State) (o value : ℕ) (reg : Reg) → ((p : Profile) → reg_of p o ≡ Some reg)
    → step s (reads o) ≡ Ok (Value value, t) → value ≡ gives s reg
read_gives s t o value reg there h =
    let access : Reg → Answer × State = λ r. (Value (gives s r), after_read s r) in
    let is : (Value (gives s reg), after_read s reg) ≡ (Value value, t)
    = ok_is _ _ (sym (ap (λ r. at_register r access (at_none s o (Value 0))) (there s.profile)) ∙ h) in
    same_value _ _ (ap (λ x. x.0) is)
  where
    same_value : (a b : ℕ) → Value a ≡ Value b → b ≡ a
    same_value a b e = cc

poked_by : (s t : State) (at : ℕ) (octets : List ℕ) (a b : Bool) (r : Result (Answer × State) Refusal)
    → r ≡ (if a then Err Range else if b then Err Length else Ok (Done, record s { memory = put s.memory at octets }))
    → r ≡ Ok (Done, t) → t ≡ record s { memory = put s.memory at octets }
poked_by s t at octets true b r is h = absurd (let no_such = sym is ∙ h in cc)
poked_by s t at octets false true r is h = absurd (let no_such = sym is ∙ h in cc)
poked_by s t at octets false false r is h = sym (ap (λ x. x.1) (ok_is _ (Done, t) (sym is ∙ h)))

-- the state after a memory write
pub poked : (s t : State) (at : ℕ) (octets : List ℕ) → step s (pokes at octets) ≡ Ok (Done, t)
    → t ≡ record s { memory = put s.memory at octets }
poked s t at octets h =
    poked_by s t at octets (leaves s.base s.memory at (length octets))
    (length octets == 0 || nat_lt 16_384 (length octets)) (poke s at octets) refl h

-- a memory write that lies in memory is refused for want of memory alone
pub poke_refused : (s : State) (at : ℕ) (octets : List ℕ) (refusal : Refusal)
    → LiesIn s.base s.memory at (length octets)
    → 1 ≤ length octets → length octets ≤ 16_384 → Refuses s (pokes at octets) refusal → refusal ≡ Memory
poke_refused s at octets refusal held some few (inl want) = want.0
poke_refused s at octets refusal held some few (inr h) =
    let a : leaves s.base s.memory at (length octets) ≡ false = stays_in s.base s.memory at (length octets) held in
    let b : (length octets == 0) ≡ false = grind (arith, nat_tests) in
    let c : nat_lt 16_384 (length octets) ≡ false = grind (arith, nat_tests) in
    let out : Result (Answer × State) Refusal = Ok (Done, record s { memory = put s.memory at octets }) in
    let is : poke s at octets ≡ out
    = ap (λ (x : Bool). if x then Err Range else if length octets == 0 || nat_lt 16_384
    (length octets) then Err Length else out) a
    ∙ (λ i. if b i || c i then Err Length else out) in
    absurd (let no_such : out ≡ Err refusal = sym is ∙ h in cc)
