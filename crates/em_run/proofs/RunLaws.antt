-- A kept run, played again, leads to the same machine by the same answers.
use Rattle.std.proofs.Common.{◌≡◌, ℕ, zero, suc, ◌+◌, ◌-◌, ◌*◌, ◌/◌, ◌%◌, ◌^◌, ◌<◌, ◌≤◌, Bool, true, false, List, [], ◌∷◌}
use Rattle.std.proofs.Common.{◌++◌, length, refl, sym, ap, ◌∙◌, arith, inl, inr, subst, Ok, Err}
use Rattle.std.specs.Prelude.{◌==◌, ◌||◌, ◌⊎◌, if◌then◌else◌, min, nat_lt, replicate, IsTrue}
use Rattle.std.specs.List.{flat_map}
use Rattle.std.proofs.lemmas.Bool.{cases_lt, cases_eq, eq-eqb, lt-ltb, ne_eqb}
use Rattle.std.proofs.Math.Nat.{suc-mul}
use Rattle.em_step.specs.State.{State}
use Rattle.em_step.specs.Step.{needs_memory, step, takes_memory}
use Rattle.em_step.specs.Cost.{cost}
use Rattle.em_step.specs.Event.{Event, reads, writes, pokes, arrives, links, receives, transmits}
use Rattle.em_step.specs.declared.event.Answer.{Answer}
use Rattle.em_step.specs.declared.refusal.Refusal.{Refusal}
use Rattle.em_step.specs.declared.refusal.Refusal.TheVariants.{Range, Length, Memory}
use Rattle.em_journal.specs.View.{View, after_backs, after_event}
use Rattle.em_journal.specs.History.{Call, Run, performs, refuses, after_step}
use Rattle.em_journal.proofs.BackLaws.{no_more_back, past_left}
use Rattle.em_output.specs.Output.{answer_text, back_text, refusal_text}
use Rattle.em_line.specs.Command.{back_by, event}
use Rattle.em_script.specs.Reply.{call_reply, step_call}
use Rattle.em_script.specs.Session.{bare}
use Rattle.em_kept.specs.Source.{Source}
use Rattle.em_kept.specs.Kept.{back_line, back_lines, event_line, has_line, refused_line, rest_lines, whole_lines}
use Rattle.em_kept.specs.ReadBack.{AreWhole, HasOctets, IsTypedSource}
use Rattle.em_kept.proofs.LineLaws.{back_reads, event_reads, event_whole, refused_reads, refused_silent}
use Rattle.em_run.specs.KeptRun.{AreTyped, IsTypedKept, Kept, calls_of, calls_of_run, performed, refused, went_back}
use Rattle.em_run.proofs.BackLaws.{WentBack, backs_add, went}
use Rattle.em_run.proofs.PlayLaws.{Plays, join, nothing, obeyed, passed}

-- the lines of what is kept at once
abbrev pub lines_of_kept : Kept → List (List ℕ)
lines_of_kept (performed e answer source) = event_line e answer source ∷ []
lines_of_kept (refused e refusal source) = refused_line e refusal source ∷ []
lines_of_kept (went_back asked taken source) = back_lines asked taken source

abbrev pub lines_of_run : List Kept → List (List ℕ)
lines_of_run run = flat_map lines_of_kept run

-- ---- an event

no_poke : {T : Type 0} (range empty other : Bool) (done r : T) → empty ≡ true
    → (if range then Err Range else if (empty || other) then Err Length else Ok done) ≡ Ok r → ⊥
no_poke true empty other done r none is = cc
no_poke false true other done r none is = cc
no_poke false false other done r none is = cc

no_frame : {T : Type 0} (short long : Bool) (done r : T) → short ≡ true
    → (if (short || long) then Err Length else Ok done) ≡ Ok r → ⊥
no_frame true long done r none is = cc
no_frame false long done r none is = cc

-- what was performed had octets, where it brings some
pub had_octets : (e : Event) (s : State) (r : Answer × State) → step s e ≡ Ok r → HasOctets e
had_octets (reads o) s r is = tt
had_octets (writes o v) s r is = tt
had_octets (pokes a octets) s r is = elim (cases_lt 0 (length octets)) [
  | inl some ↦ some
  | inr none ↦
      let zeros : (length octets == 0) ≡ true = eq-eqb (length octets) 0 (omega (arith, none)) in
      absurd (no_poke _ (length octets == 0) _ _ r zeros is)
]
had_octets (arrives f) s r is = elim (cases_lt 0 (length f)) [
  | inl some ↦ some
  | inr none ↦
      let short : nat_lt (length f) 14 ≡ true = lt-ltb (length f) 14 (omega (arith, none)) in
      absurd (no_frame (nat_lt (length f) 14) _ _ r short is)
]
had_octets (links up) s r is = tt
had_octets receives s r is = tt
had_octets transmits s r is = tt

event_plays : (e : Event) (a : Answer) (source : Source) (v w : View) → IsTypedKept (performed e a source)
    → Run v (performs e a ∷ []) w → Plays (event_line e a source ∷ []) (bare v) (bare w)
event_plays e a source v w h run =
    let m = run.0 in
    let does = run.1 in
    let s = v.present in
    let read = event_reads e a source h.0 (had_octets e s (a, m.present) does.0) h.1.0 h.1.1 in
    obeyed (event_line e a source) (answer_text a) (event e) source v w read
    (ap (λ r. (call_reply (step_call e r) v).machine) does.0
    ∙ ap (λ r. after_event v (after_step s r) (cost s e)) does.0 ∙ sym does.1 ∙ sym run.2)
    (ap (λ r. (call_reply (step_call e r) v).text) does.0)

-- ---- a refusal

-- memory was there, or there is no line
by_table : (e : Event) (r : Refusal) (s : State)
    → ((r ≡ Memory) × IsTrue (takes_memory e) × IsTrue (needs_memory (step s e))) ⊎ (step s e ≡ Err r)
    → has_line e r ≡ true → step s e ≡ Err r
by_table e r s (inl want) played = absurd (no_line (ap (has_line e) (sym want.0) ∙ played)) where
  no_line : has_line e Memory ≡ true → ⊥
  no_line is = cc
by_table e r s (inr is) played = is

refused_plays : (e : Event) (r : Refusal) (source : Source) (v w : View) → IsTypedKept (refused e r source)
    → Run v (refuses e r ∷ []) w → Plays (refused_line e r source ∷ []) (bare v) (bare w)
refused_plays e r source v w h run = by (has_line e r) refl where
  same : w ≡ v
  same = run.2 ∙ run.1.1

  by : (b : Bool) → has_line e r ≡ b → Plays (refused_line e r source ∷ []) (bare v) (bare w)
  by true played =
      let is = by_table e r v.present run.1.0 played in
      obeyed (refused_line e r source) (refusal_text r) (event e) source v w (refused_reads e r source h.0 h.1 played)
      (ap (λ x. (call_reply (step_call e x) v).machine) is ∙ sym same)
      (ap (λ x. (call_reply (step_call e x) v).text) is)
  by false other =
      subst (λ x. Plays (refused_line e r source ∷ []) (bare v) (bare x)) (sym same)
      (passed (refused_line e r source) (bare v) (refused_silent e r source h.0 h.1 other))

-- ---- steps back

-- a line of steps back
back_plays : (asked taken : ℕ) (source : Source) (v w : View) → 0 < asked → asked ≤ 65_536 → taken < 2 ^ 64
    → IsTypedSource source → min asked (length v.past) ≡ taken → after_backs asked v ≡ w
    → Plays (back_line asked taken source ∷ []) (bare v) (bare w)
back_plays asked taken source v w some few fits from count leads =
    obeyed (back_line asked taken source) (back_text taken) (back_by asked) source v w
    (back_reads asked taken source some few fits from) leads (ap back_text count)

-- so many lines of as many steps back, where there are as many
whole_plays : (each q : ℕ) (source : Source) (v : View) → 0 < each → each ≤ 65_536 → IsTypedSource source
    → q * each ≤ length v.past
    → Plays (replicate q (back_line each each source)) (bare v) (bare (after_backs (q * each) v))
whole_plays each zero source v some few from enough =
    let none : 0 * each ≡ 0 = omega arith in
    subst (λ n. Plays [] (bare v) (bare (after_backs n v))) (sym none) (nothing (bare v))
whole_plays each (suc q) source v some few from enough =
    let next = after_backs each v in
    let all : suc q * each ≡ each + q * each = omega (arith, suc-mul q each) in
    let left = past_left each v next refl in
    let count : min each (length v.past) ≡ each = omega (arith, enough, all) in
    let leads : after_backs (suc q * each) v ≡ after_backs (q * each) next =
    ap (λ n. after_backs n v) all ∙ backs_add each (q * each) v in
    subst (λ x. Plays (back_line each each source ∷ replicate q (back_line each each source)) (bare v) (bare x)) (sym leads)
    (join (back_line each each source ∷ []) (replicate q (back_line each each source)) (bare v) (bare next)
    (bare (after_backs (q * each) next))
    (back_plays each each source v next some few (omega (arith, few)) from count refl)
    (whole_plays each q source next some few from (omega (arith, enough, all, left))))

-- the line of the rest
rest_plays : (left taken : ℕ) (source : Source) (v w : View) → taken ≤ left → taken < 65_536 → IsTypedSource source
    → WentBack left taken v w → Plays (rest_lines left taken source) (bare v) (bare w)
rest_plays left taken source v w within few from did = elim (cases_eq left 0) [
  | inl none ↦
      let no_line : (left == 0) ≡ true = eq-eqb left 0 none in
      let no_step : taken ≡ 0 = omega (arith, none, within) in
      let same : w ≡ v = did.leads ∙ ap (λ n. after_backs n v) no_step in
      rw no_line (subst (λ x. Plays [] (bare v) (bare x)) (sym same) (nothing (bare v)))
  | inr some ↦
      let a_line : (left == 0) ≡ false = ne_eqb left 0 some in
      rw a_line
      (back_plays (min left 65_536) taken source v w (omega (arith, some)) (omega arith) (omega (arith, few)) from count leads)
] where
  fewer_left : length w.past ≡ length v.past - taken
  fewer_left = past_left taken v w did.leads

  -- all that are left, or as many as a line takes
  enough : taken ≤ min left 65_536
  enough = omega (arith, within, few)

  count : min (min left 65_536) (length v.past) ≡ taken
  count = elim (cases_lt taken left) [
    | inl fewer ↦
        let empty : length w.past ≡ 0 = ap (λ p. length p) (did.none fewer) in
        omega (arith, fewer_left, empty, did.within, fewer, few)
    | inr all ↦ omega (arith, did.within, within, all, few)
  ]

  leads : after_backs (min left 65_536) v ≡ w
  leads = elim (cases_lt taken left) [
    | inl fewer ↦ sym (no_more_back taken (min left 65_536) v w did.leads enough (did.none fewer))
    | inr all ↦
        let same : min left 65_536 ≡ taken = omega (arith, within, all, few) in
        ap (λ n. after_backs n v) same ∙ sym did.leads
  ]

backs_play : (asked taken : ℕ) (source : Source) (v w : View) → taken ≤ asked → IsTypedSource source
    → WentBack asked taken v w → Plays (back_lines asked taken source) (bare v) (bare w)
backs_play asked taken source v w within from did =
    let q = taken / 65_536 in
    let t = taken % 65_536 in
    let next = after_backs (q * 65_536) v in
    let cut : taken ≡ q * 65_536 + t = omega arith in
    let fewer_left = past_left (q * 65_536) v next refl in
    let leads : w ≡ after_backs t next = did.leads ∙ ap (λ n. after_backs n v) cut ∙ backs_add (q * 65_536) t v in
    join (whole_lines q source) (rest_lines (asked - q * 65_536) t source) (bare v) (bare next) (bare w)
    (whole_plays 65_536 q source v (omega arith) (omega arith) from (omega (arith, cut, did.within)))
    (rest_plays (asked - q * 65_536) t source next w (omega (arith, cut, within)) (omega arith) from
    record {
      within = omega (arith, cut, fewer_left, did.within);
      leads = leads;
      none = λ fewer. did.none (omega (arith, cut, fewer, within));
    })

-- ---- a run

kept_plays : (kept : Kept) (v w : View) → IsTypedKept kept → Run v (calls_of kept) w
    → Plays (lines_of_kept kept) (bare v) (bare w)
kept_plays (performed e a source) v w h run = event_plays e a source v w h run
kept_plays (refused e r source) v w h run = refused_plays e r source v w h run
kept_plays (went_back asked taken source) v w h run =
    backs_play asked taken source v w h.0 h.1 (went asked taken v w run)

-- a run of two parts
pub run_cut : (xs ys : List Call) (v w : View) → Run v (xs ++ ys) w → (m : View) × Run v xs m × Run m ys w
run_cut [] ys v w run = (v, refl, run)
run_cut (call ∷ xs) ys v w run =
    let rest = run_cut xs ys run.0 w run.2 in
    (rest.0, (run.0, run.1, rest.1), rest.2)

pub run_plays : (run : List Kept) (v w : View) → AreTyped run → Run v (calls_of_run run) w
    → Plays (lines_of_run run) (bare v) (bare w)
run_plays [] v w h run = subst (λ x. Plays [] (bare v) (bare x)) (sym run) (nothing (bare v))
run_plays (kept ∷ more) v w h run =
    let cut = run_cut (calls_of kept) (calls_of_run more) v w run in
    join (lines_of_kept kept) (lines_of_run more) (bare v) (bare cut.0) (bare w)
    (kept_plays kept v cut.0 h.0 cut.1) (run_plays more cut.0 w h.1 cut.2)

-- ---- none of the lines has a newline in it

pub whole_append : (xs ys : List (List ℕ)) → AreWhole xs → AreWhole ys → AreWhole (xs ++ ys)
whole_append [] ys a b = b
whole_append (x ∷ xs) ys a b = (a.0, whole_append xs ys a.1 b)

whole_lines_whole : (each q : ℕ) (source : Source) → 0 < each → each ≤ 65_536 → IsTypedSource source
    → AreWhole (replicate q (back_line each each source))
whole_lines_whole each zero source some few from = tt
whole_lines_whole each (suc q) source some few from = (
  (back_reads each each source some few (omega (arith, few)) from).whole,
  whole_lines_whole each q source some few from,
)

rest_whole : (left taken : ℕ) (source : Source) → taken < 65_536 → IsTypedSource source
    → AreWhole (rest_lines left taken source)
rest_whole left taken source few from = elim (cases_eq left 0) [
  | inl none ↦ rw (eq-eqb left 0 none) tt
  | inr some ↦ rw (ne_eqb left 0 some)
      ((back_reads (min left 65_536) taken source (omega (arith, some)) (omega arith) (omega (arith, few)) from).whole, tt)
]

refused_whole : (e : Event) (r : Refusal) (source : Source) → IsTypedKept (refused e r source)
    → AreWhole (refused_line e r source ∷ [])
refused_whole e r source h = by (has_line e r) refl where
  by : (b : Bool) → has_line e r ≡ b → AreWhole (refused_line e r source ∷ [])
  by true played = ((refused_reads e r source h.0 h.1 played).whole, tt)
  by false other = ((refused_silent e r source h.0 h.1 other).whole, tt)

kept_whole : (kept : Kept) → IsTypedKept kept → AreWhole (lines_of_kept kept)
kept_whole (performed e a source) h = (event_whole e a source h.0 h.1.0 h.1.1, tt)
kept_whole (refused e r source) h = refused_whole e r source h
kept_whole (went_back asked taken source) h =
    let q = taken / 65_536 in
    whole_append (whole_lines q source) (rest_lines (asked - q * 65_536) (taken % 65_536) source)
    (whole_lines_whole 65_536 q source (omega arith) (omega arith) h.1)
    (rest_whole (asked - q * 65_536) (taken % 65_536) source (omega arith) h.1)

pub run_whole : (run : List Kept) → AreTyped run → AreWhole (lines_of_run run)
run_whole [] h = tt
run_whole (kept ∷ more) h =
    whole_append (lines_of_kept kept) (lines_of_run more) (kept_whole kept h.0) (run_whole more h.1)
