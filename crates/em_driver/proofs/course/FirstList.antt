-- How a plan's first list passes, and what an access is after it.
use Rattle.std.proofs.Common.{◌≡◌, ◌∙◌, Bool, true, false, List, [], ◌∷◌, ◌++◌, Ok, Err, Result, refl, sym, ap}
use Rattle.std.proofs.Common.{Option, None}
use Rattle.std.proofs.Common.{subst}
use Rattle.std.proofs.Common.{inl, inr, length, arith}
use Rattle.std.proofs.lemmas.List.{length-append}
use Rattle.em_step.specs.Event.{Event}
use Rattle.em_step.specs.Step.{step, Refuses}
use Rattle.em_step.specs.State.{State}
use Rattle.em_step.specs.declared.event.Answer.{Answer}
use Rattle.em_step.specs.declared.refusal.Refusal.{Refusal}
use Rattle.em_step.specs.declared.refusal.Refusal.TheVariants.{Memory}
use Rattle.em_journal.specs.History.{performs, Does}
use Rattle.em_journal.specs.View.{View}
use Rattle.em_driver.specs.Taking.{TakesAll}
use Rattle.em_turn.specs.Turn.{event_of}
use Rattle.em_driver.specs.World.{World, Accesses, IsRefused, Passes, quiet, first, rest}
use Rattle.em_driver.specs.World.{after_outcome, after_turn, after_turns, after_others, Spare}
use Rattle.em_driver.specs.declared.layout.Layout.{Layout}
use Rattle.em_turn.specs.declared.turn.Turn.{Turn}

-- ---- a plan beside the turns

-- a world with a plan, starved or not
abbrev pub planning : List (List Turn) → Bool → World → World
planning plan starved w = record w { plan = plan; starved = starved }

outcome_planning : (w : World) (t : Turn) (r : Result (Answer
    × State) Refusal) (plan : List (List Turn)) (starved : Bool)
    → after_outcome (planning plan starved w) t r ≡ planning plan starved (after_outcome w t r)
outcome_planning w t (Ok r) plan starved = refl
outcome_planning w t (Err refusal) plan starved = refl

pub turns_planning : (w : World) (turns : List Turn) (plan : List (List Turn)) (starved : Bool)
    → after_turns (planning plan starved w) turns ≡ planning plan starved (after_turns w turns)
turns_planning w [] plan starved = refl
turns_planning w (t ∷ turns) plan starved =
    ap (λ x. after_turns x turns) (outcome_planning w t (step w.machine.present (event_of t)) plan starved)
    ∙ turns_planning (after_turn w t) turns plan starved

-- where nobody acts beside the plan no event passes but for its turns
pub none_beside : (spared : Option Layout) (events : List Event) → spared ≡ None → Spare spared events → events ≡ []
none_beside spared events alone h = subst (λ x. Spare x events) alone h

spare_none : (spared : Option Layout) → spared ≡ None → Spare spared []
spare_none spared alone = subst (λ x. Spare x []) (sym alone) refl

-- where the turns led, but for the plan
led : (w v : World) (turns : List Turn) (plan left : List (List Turn)) (starved wanting : Bool)
    → v ≡ after_turns w turns
    → planning left wanting v ≡ planning left wanting (after_turns (planning plan starved w) turns)
led w v turns plan left starved wanting is =
    ap (planning left wanting) is ∙ sym (ap (planning left wanting) (turns_planning w turns plan starved))

-- ---- the first list passes

-- whole
pub pass_whole : (w v : World) (turns : List Turn) (plan left : List (List Turn)) (starved : Bool)
    → w.spared ≡ None → plan ≡ turns ∷ left → TakesAll w turns true v
    → Passes (planning plan starved w) (planning left starved v)
pass_whole w v turns plan left starved alone e takes = record {
  turns = turns;
  taken = inl (ap first (sym e), sym (ap rest e), refl);
  events = [];
  spare = spare_none w.spared alone;
  is = led w v turns plan left starved starved (takes.is ∙ ap (after_turns w) takes.which);
}

-- up to a turn that finds no memory
pub pass_starved : (w v : World) (turns : List Turn) (plan left dropped : List (List Turn)) (starved : Bool)
    → w.spared ≡ None → plan ≡ turns ∷ left → dropped ≡ [] → TakesAll w turns false v
    → Passes (planning plan starved w) (planning dropped true v)
pass_starved w v turns plan left dropped starved alone e none takes = record {
  turns = takes.taken;
  taken = inr (
    record {
      wanting = takes.which.0;
      dropped = takes.which.1;
      is = ap first e ∙ takes.which.2;
      refused = subst (λ (x : World). Refuses x.machine.present (event_of takes.which.0) Memory)
          (sym (turns_planning w takes.taken plan starved)) takes.which.3;
    },
    none,
    refl,
  );
  events = [];
  spare = spare_none w.spared alone;
  is = led w v takes.taken plan dropped starved true takes.is;
}

-- where there is none
pub pass_empty : (w : World) (plan left : List (List Turn)) (starved : Bool) → w.spared ≡ None → plan ≡ [] → left ≡ []
    → Passes (planning plan starved w) (planning left starved w)
pass_empty w plan left starved alone none same = record {
  turns = [];
  taken = inl (sym (ap first none), same ∙ sym (ap rest none), refl);
  events = [];
  spare = spare_none w.spared alone;
  is = refl;
}

-- ---- no plan

no_more : (turns dropped : List Turn) (wanting : Turn) → [] ≡ turns ++ wanting ∷ dropped → ⊥
no_more turns dropped wanting e =
    omega (arith, ap length e, length-append turns (wanting ∷ dropped))

-- nothing passes where nothing is planned, and nobody acts beside the plan
pub pass_none : (w v : World) → w.spared ≡ None → w.plan ≡ [] → Passes w v → v ≡ w
pass_none w v alone e p =
    let none = none_beside w.spared p.events alone p.spare in
    let is : v ≡ planning v.plan v.starved (after_turns w p.turns)
    = p.is ∙ ap (λ events. planning v.plan v.starved (after_others (after_turns w p.turns) events)) none in
    elim p.taken [
      | inl whole ↦ is ∙ ap (λ ts. planning v.plan v.starved (after_turns w ts)) (whole.0 ∙ ap first e)
          ∙ ap (λ plan. planning plan v.starved w) (whole.1 ∙ ap rest e ∙ sym e)
          ∙ ap (λ b. planning w.plan b w) whole.2
      | inr stop ↦ absurd (no_more p.turns stop.0.dropped stop.0.wanting (sym (ap first e) ∙ stop.0.is))
    ]

-- ---- an access of the machine alone, after the others

pub passed_access : (w m : World) (n : View) (e : Event) (answer : Answer) → Passes w m
    → Accesses (quiet m.machine) e answer (quiet n) → Accesses w e answer (record m { machine = n })
passed_access w m n e answer p a =
    let same = pass_none (quiet m.machine) a.mid refl refl a.passes in
    record {
      mid = m;
      passes = p;
      does = subst (λ (x : World). Does x.machine (performs e answer) n) same a.does;
      is = refl;
    }

pub passed_refusal : (w m : World) (n : View) (e : Event) (refusal : Refusal) → m.scarce ≡ true → Passes w m
    → IsRefused (quiet m.machine) e refusal (quiet n) → IsRefused w e refusal (record m { machine = n })
passed_refusal w m n e refusal is p a =
    let same : n ≡ m.machine = ap (λ (x : World). x.machine) (pass_none (quiet m.machine) (quiet n) refl refl a.passes) in
    record {
      passes = subst (λ v. Passes w (record m { machine = v })) (sym same) p;
      refuses = a.refuses;
      asked = λ want. is;
    }
