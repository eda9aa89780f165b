-- Serving a session, line by line.
use Rattle.std.proofs.Common.{◌≡◌, ℕ, ◌+◌, Bool, true, List, [], ◌∷◌, ◌++◌, length, Result, Ok, Err, IsErr, inl, inr}
use Rattle.std.proofs.Common.{refl, sym, ap, ◌∙◌, subst}
use Rattle.std.proofs.lemmas.List.{length_push}
use Rattle.em_console.specs.declared.fault.ConsoleFault.{ConsoleFault}
use Rattle.em_console.specs.declared.session.Flow.{Flow}
use Rattle.em_console.specs.declared.session.Flow.TheVariants.{Goes}
use Rattle.em_console.specs.declared.serving.End.{End}
use Rattle.em_console.specs.Turns.{Turn, Typed, Failed, Told, asked, Leads}
use Rattle.em_console.specs.Serving.{Round, Answering, GoesOn, EndsWithin, EndsBy, Serves, turns}

-- steps, and then further steps
pub Leads-append : {X A : Type 0} (Step : A → X → A → Type 0) (xs ys : List X) (a b c : A) → Leads Step xs a b
    → Leads Step ys b c → Leads Step (xs ++ ys) a c
Leads-append Step [] ys a b c p q = subst (λ from. Leads Step ys from c) p q
Leads-append Step (x ∷ xs) ys a b c p q = (p.0, p.1, Leads-append Step xs ys p.0 b c p.2 q)

-- one more round
turns-push : (rounds : List Round) (round : Round)
    → turns (rounds ++ round ∷ []) ≡ turns rounds ++ Typed round.line ∷ Told round.text ∷ []
turns-push [] round = refl
turns-push (r ∷ rounds) round = ap (λ ts. Typed r.line ∷ Told r.text ∷ ts) (turns-push rounds round)

-- a line was typed, where the console says so, and it was passed on
pub typed_line : {C : Type 0} (passes : C → Turn → C → Type 0) (now mid : C) (more : Bool) (line passed_on : List ℕ)
    → more ≡ true → passed_on ≡ line → passes now (asked {E = ConsoleFault} (Ok more) line) mid
    → passes now (Typed passed_on) mid
typed_line passes now mid more line passed_on is same h =
    subst (λ l. passes now (Typed l) mid) (sym same)
    (subst (λ b. passes now (asked {E = ConsoleFault} (Ok b) line) mid) is h)

-- its answer was passed on
pub answered_line : {S : Type 0} (answers : Answering S) (before after : S) (line text passed_on : List ℕ)
    (flow then : Flow) → passed_on ≡ text → flow ≡ then → answers before line text flow after
    → answers before line passed_on then after
answered_line answers before after line text passed_on flow then same is h =
    subst (λ f. answers before line passed_on f after) is (subst (λ t. answers before line t flow after) (sym same) h)

-- so many lines were answered, and their answers told
pub record Served {C S : Type 0} (passes : C → Turn → C → Type 0) (answers : Answering S) (first now : C)
    (before after : S) (count : ℕ) : Type 0 where
  pub rounds : List Round
  pub long : length rounds ≡ count
  pub answered : Leads (GoesOn answers) rounds before after
  pub passed : Leads passes (turns rounds) first now

pub Served-none : {C S : Type 0} (passes : C → Turn → C → Type 0) (answers : Answering S) (c : C) (s : S)
    → Served passes answers c c s s 0
Served-none passes answers c s = record { rounds = []; long = refl; answered = refl; passed = refl }

-- one line more
pub Served-more : {C S : Type 0} (passes : C → Turn → C → Type 0) (answers : Answering S) (first now mid then : C)
    (before after later : S) (count : ℕ) (line text : List ℕ) → Served passes answers first now before after count
    → passes now (Typed line) mid → answers after line text Goes later → passes mid (Told text) then
    → Served passes answers first then before later (count + 1)
Served-more passes answers first now mid then before after later count line text h typed answered told =
    let round : Round = record { line = line; text = text } in
    record {
      rounds = h.rounds ++ round ∷ [];
      long = length_push h.rounds round ∙ ap (λ n. n + 1) h.long;
      answered = Leads-append (GoesOn answers) h.rounds (round ∷ []) before after later h.answered
          (later, answered, refl);
      passed = subst (λ ts. Leads passes ts first then) (sym (turns-push h.rounds round))
          (Leads-append passes (turns h.rounds) (Typed line ∷ Told text ∷ []) first now then h.passed
          (mid, typed, (then, told, refl)));
    }

-- the last turns
pub Serves-last : {C S : Type 0} (passes : C → Turn → C → Type 0) (answers : Answering S)
    (stops : S → List ℕ → S → Type 0) (result : Result End ConsoleFault) (first now then : C) (before after later : S)
    (count : ℕ) (last : List Turn) → Served passes answers first now before after count → Leads passes last now then
    → EndsBy answers stops result count last after later → Serves passes answers stops result first then before later
Serves-last passes answers stops result first now then before after later count last h passed ended = record {
  rounds = h.rounds;
  last = last;
  between = after;
  answered = h.answered;
  passed = Leads-append passes (turns h.rounds) last first now then h.passed passed;
  ended = subst (λ n. EndsBy answers stops result n last after later) (sym h.long) ended;
}

-- the console failed where a line was asked for
pub EndsBy-failed : {S : Type 0} (answers : Answering S) (stops : S → List ℕ → S → Type 0)
    (result : Result End ConsoleFault) (count : ℕ) (session : S) → IsErr result
    → EndsBy answers stops result count (Failed ∷ []) session session
EndsBy-failed answers stops (Ok end) count session failed = cc
EndsBy-failed answers stops (Err fault) count session failed = inl (refl, refl)

-- the console failed within an answer
pub EndsBy-within : {S : Type 0} (answers : Answering S) (stops : S → List ℕ → S → Type 0)
    (result : Result End ConsoleFault) (count : ℕ) (last : List Turn) (before after : S) → IsErr result
    → EndsWithin answers last before after → EndsBy answers stops result count last before after
EndsBy-within answers stops (Ok end) count last before after failed h = cc
EndsBy-within answers stops (Err fault) count last before after failed h = inr (inl h)
