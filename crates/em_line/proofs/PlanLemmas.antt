-- The words of a plan, one after the other.
use Rattle.std.proofs.Common.{◌≡◌, ◌∙◌, ℕ, ◌+◌, ◌≤◌, List, [], ◌∷◌, ◌++◌, length, Option, Some, None, refl, sym}
use Rattle.std.proofs.Common.{ap}
use Rattle.std.proofs.Common.{append_assoc, append-nil, arith}
use Rattle.std.specs.Prelude.{IsSome, Vec}
use Rattle.std.specs.Global.{Global}
use Rattle.std.specs.Option.{option_map}
use Rattle.std.proofs.lemmas.List.{map-append, length-append}
use Rattle.em_turn.specs.declared.turn.Turn.{Turn}
use Rattle.em_turn.specs.Planned.{planned}
use Rattle.em_turn.specs.Turn.{plan_turns}
use Rattle.em_line.specs.Plan.{said_turn, led_by, plan_with, plan_of}

-- ---- one word

-- the words of a plan say something each
pub each_said : (word : List ℕ) (words : List (List ℕ)) → IsSome (plan_of (word ∷ words))
    → IsSome (said_turn word) × IsSome (plan_of words)
each_said word words some = by_parts (said_turn word) (plan_of words) some
  where
    by_parts : (t : Option (Option Turn)) (plan : Option (List (List Turn))) → IsSome (plan_with t plan)
        → IsSome t × IsSome plan
    by_parts None plan some = cc some
    by_parts (Some t) None some = cc some
    by_parts (Some t) (Some plan) some = (refl, refl)

pub said_more : (word : List ℕ) (words : List (List ℕ)) → IsSome (said_turn word) → IsSome (plan_of words)
    → IsSome (plan_of (word ∷ words))
said_more word words said some = by_parts (said_turn word) (plan_of words) said some
  where
    by_parts : (t : Option (Option Turn)) (plan : Option (List (List Turn))) → IsSome t → IsSome plan
        → IsSome (plan_with t plan)
    by_parts None plan said some = cc said
    by_parts (Some t) None said some = cc some
    by_parts (Some t) (Some plan) said some = refl

next_is : (word : List ℕ) (words : List (List ℕ)) (t : Option Turn) → said_turn word ≡ Some t
    → plan_of (word ∷ words) ≡ option_map (led_by t) (plan_of words)
next_is word words t said = rw said (by_plan t (plan_of words))
  where
    by_plan : (t : Option Turn) (plan : Option (List (List Turn))) → plan_with (Some t) plan ≡ option_map (led_by t)
        plan
    by_plan t None = refl
    by_plan t (Some plan) = refl

-- a plan has a list at least
never_empty : (words : List (List ℕ)) → plan_of words ≡ Some [] → ⊥
never_empty [] e = cc e
never_empty (word ∷ words) e = by_parts (said_turn word) (plan_of words) e
  where
    by_parts : (t : Option (Option Turn)) (plan : Option (List (List Turn))) → plan_with t plan ≡ Some [] → ⊥
    by_parts None plan e = cc e
    by_parts (Some t) None e = cc e
    by_parts (Some None) (Some plan) e = cc e
    by_parts (Some (Some t)) (Some []) e = cc e
    by_parts (Some (Some t)) (Some (turns ∷ plan)) e = cc e

-- ---- a plan while it is made

-- of lists that are made, the turns of the next list so far, and the plan of the words that are left
abbrev joined : List (List Turn) → List Turn → List (List Turn) → List (List Turn)
joined made turns [] = made ++ turns ∷ []
joined made turns (more ∷ plan) = made ++ (turns ++ more) ∷ plan

joined_turn : (made : List (List Turn)) (turns : List Turn) (t : Turn) (plan : List (List Turn))
    → joined made turns (led_by (Some t) plan) ≡ joined made (turns ++ t ∷ []) plan
joined_turn made turns t [] = refl
joined_turn made turns t (more ∷ plan) = ap (λ l. made ++ l ∷ plan) (sym (append_assoc turns (t ∷ []) more))

joined_end : (made : List (List Turn)) (turns : List Turn) (plan : List (List Turn)) → (plan ≡ [] → ⊥)
    → joined made turns (led_by None plan) ≡ joined (made ++ turns ∷ []) [] plan
joined_end made turns [] ne = absurd (ne refl)
joined_end made turns (more ∷ plan) ne =
    ap (λ l. made ++ l ∷ more ∷ plan) (append-nil turns) ∙ sym (append_assoc made (turns ∷ []) (more ∷ plan))

joined_first : (plan : List (List Turn)) → (plan ≡ [] → ⊥) → joined [] [] plan ≡ plan
joined_first [] ne = absurd (ne refl)
joined_first (more ∷ plan) ne = refl

turns_more : (made : List (List Turn)) (turns : List Turn)
    → plan_turns (made ++ turns ∷ []) ≡ plan_turns made + length turns
turns_more [] turns = omega arith
turns_more (first ∷ made) turns = omega (arith, turns_more made turns)

-- the words of a plan up to the rest were read
pub record Builds (all rest : List (List ℕ)) (made : List (Vec Turn Global)) (turns : List Turn) : Type 0 where
  pub left : IsSome (plan_of rest)
  pub is : plan_of all ≡ option_map (joined (planned made) turns) (plan_of rest)
  pub few : plan_turns (planned made) + length turns + length rest ≤ length all

pub builds_first : (all : List (List ℕ)) → IsSome (plan_of all) → Builds all all [] []
builds_first all some = record { left = some; is = by_plan (plan_of all) (never_empty all); few = omega arith }
  where
    by_plan : (plan : Option (List (List Turn))) → (plan ≡ Some [] → ⊥) → plan ≡ option_map (joined [] []) plan
    by_plan None ne = refl
    by_plan (Some plan) ne = ap Some (sym (joined_first plan (λ e. ne (ap Some e))))

pub builds_turn : {all rest : List (List ℕ)} {made : List (Vec Turn Global)} {turns : List Turn} (word : List ℕ)
    (t : Turn)
    → Builds all (word ∷ rest) made turns → said_turn word ≡ Some (Some t) → Builds all rest made (turns ++ t ∷ [])
builds_turn {rest = rest} {made = made} {turns = turns} word t built said = record {
  left = (each_said word rest built.left).1;
  is = built.is ∙ ap (option_map (joined (planned made) turns)) (next_is word rest (Some t) said)
      ∙ by_plan (planned made) turns t (plan_of rest);
  few = omega (arith, built.few, length-append turns (t ∷ []));
}
  where
    by_plan : (made : List (List Turn)) (turns : List Turn) (t : Turn) (plan : Option (List (List Turn)))
        → option_map (joined made turns) (option_map (led_by (Some t)) plan)
        ≡ option_map (joined made (turns ++ t ∷ [])) plan
    by_plan made turns t None = refl
    by_plan made turns t (Some plan) = ap Some (joined_turn made turns t plan)

planned_more : (made : List (Vec Turn Global)) (list : Vec Turn Global)
    → planned (made ++ list ∷ []) ≡ planned made ++ list.items ∷ []
planned_more made list = map-append (λ (v : Vec Turn Global). v.items) made (list ∷ [])

pub builds_end : {all rest : List (List ℕ)} {made : List (Vec Turn Global)} (list : Vec Turn Global) (word : List ℕ)
    → Builds all (word ∷ rest) made list.items → said_turn word ≡ Some None → Builds all rest (made ++ list ∷ []) []
builds_end {rest = rest} {made = made} list word built said = record {
  left = (each_said word rest built.left).1;
  is = built.is ∙ ap (option_map (joined (planned made) list.items)) (next_is word rest None said)
      ∙ by_plan (planned made) list.items (plan_of rest) (never_empty rest)
      ∙ ap (λ lists. option_map (joined lists []) (plan_of rest)) (sym (planned_more made list));
  few = omega (arith, built.few, ap plan_turns (planned_more made list), turns_more (planned made) list.items);
}
  where
    by_plan : (made : List (List Turn)) (turns : List Turn) (plan : Option (List (List Turn))) → (plan ≡ Some [] → ⊥)
        → option_map (joined made turns) (option_map (led_by None) plan)
        ≡ option_map (joined (made ++ turns ∷ []) []) plan
    by_plan made turns None ne = refl
    by_plan made turns (Some plan) ne = ap Some (joined_end made turns plan (λ e. ne (ap Some e)))

pub builds_all : {all rest : List (List ℕ)} {made : List (Vec Turn Global)} (list : Vec Turn Global)
    → Builds all rest made list.items → rest ≡ [] → plan_of all ≡ Some (planned (made ++ list ∷ []))
builds_all {made = made} list built none =
    built.is ∙ ap (λ rest. option_map (joined (planned made) list.items) (plan_of rest)) none
    ∙ ap (λ l. Some (planned made ++ l ∷ [])) (append-nil list.items) ∙ ap Some (sym (planned_more made list))

pub builds_few : {all rest : List (List ℕ)} {made : List (Vec Turn Global)} (list : Vec Turn Global)
    → Builds all rest made list.items → plan_turns (planned (made ++ list ∷ [])) ≤ length all
builds_few {made = made} list built =
    omega (arith, built.few, ap plan_turns (planned_more made list), turns_more (planned made) list.items)
