-- Lines that do again what lines did, one after another.
use Rattle.std.proofs.Common.{◌≡◌, ◌∙◌, ℕ, zero, suc, ◌+◌, ◌-◌, ◌<◌, ◌≤◌, List, [], ◌∷◌, ◌++◌, length, map, take, true, Option, Ok}
use Rattle.std.proofs.Common.{Some, None, sym, ap, subst, arith}
use Rattle.std.specs.Prelude.{slice_get, unwrap_or, ◌&&◌}
use Rattle.std.proofs.lemmas.List.{length-map, length-take-le}
use Rattle.em_journal.specs.declared.settings.Settings.{Settings}
use Rattle.em_script.specs.declared.outcome.Outcome.{Outcome}
use Rattle.em_named.specs.declared.did.Did.{Did}
use Rattle.em_tape.specs.Moves.{Plays, noted}
use Rattle.em_tape.specs.Tape.{HoldsTape, Tape, line_at}
use Rattle.em_debugger.specs.Deeper.{IsAgainTo, did_again, line_again, lines_again}
use Rattle.em_debugger.specs.Place.{text_of}
use Rattle.em_debugger.proofs.NotedLaws.{noted_last}

-- one line more
lines_again-more : (k : ℕ) (did : List Did) (lines : List (List ℕ)) (one : Did) → slice_get did k ≡ Some one
    → k < length lines
    → lines_again (take (suc k) did) lines
    ≡ lines_again (take k did) lines ++ line_again one (unwrap_or (slice_get lines k) []) ∷ []
lines_again-more k [] lines one is lt = absurd (cc)
lines_again-more k (d ∷ did) [] one is lt = absurd (omega arith)
lines_again-more zero (d ∷ did) (l ∷ lines) one is lt =
    let same : d ≡ one = cc in ap (λ x. line_again x l ∷ []) same
lines_again-more (suc k) (d ∷ did) (l ∷ lines) one is lt =
    ap (λ rest. line_again d l ∷ rest) (lines_again-more k did lines one is (omega arith))

did_again-more : (k : ℕ) (did : List Did) (one : Did) → slice_get did k ≡ Some one
    → map did_again (take (suc k) did) ≡ map did_again (take k did) ++ did_again one ∷ []
did_again-more k [] one is = absurd (cc)
did_again-more zero (d ∷ did) one is = let same : d ≡ one = cc in ap (λ x. did_again x ∷ []) same
did_again-more (suc k) (d ∷ did) one is = ap (λ rest. did_again d ∷ rest) (did_again-more k did one is)

-- there is such a line
pub line_there : (line : ℕ) (did : List Did) → 0 < line → line ≤ length did → line_at line did ≡ None → ⊥
line_there zero did some le is = absurd (omega arith)
line_there (suc k) [] some le is = absurd (omega arith)
line_there (suc zero) (d ∷ did) some le is = absurd (cc)
line_there (suc (suc k)) (d ∷ did) some le is = line_there (suc k) did (omega arith) (omega arith) is

last_of : (k : ℕ) (did : List Did) (d one : Did) → length did ≡ k → slice_get (did ++ d ∷ []) k ≡ Some one → d ≡ one
last_of zero [] d one long is = cc
last_of (suc k) [] d one long is = absurd (omega arith)
last_of zero (x ∷ did) d one long is = absurd (omega arith)
last_of (suc k) (x ∷ did) d one long is = last_of k did d one (omega arith) is

again_next : {T T' : Option (List ℕ)} {outcome : Outcome} (settings : Settings)
    (tape old mid new : Tape) (k : ℕ) (one : Did) → slice_get tape.did k ≡ Some one → suc k ≤ length tape.did
    → k < length tape.lines
    → mid ≡ record old { lines = old.lines ++ line_again one (text_of (suc k) tape) ∷ [] }
    → Plays mid new T T' (Ok outcome) → slice_get new.did k ≡ Some (did_again one) → HoldsTape new
    → IsAgainTo settings tape k old → IsAgainTo settings tape (suc k) new
again_next settings tape old mid new k one is le lt added plays same holds h =
    let whole : mid.whole ≡ k = ap (λ (t : Tape). t.whole) added ∙ h.behind.whole in
    let mid_did : mid.did ≡ map did_again (take k tape.did) = ap (λ (t : Tape). t.did) added ∙ h.again.did in
    let long : length mid.did ≡ k =
    ap length mid_did ∙ length-map (take k tape.did) did_again ∙ length-take-le k tape.did (omega arith) in
    let new_did : new.did ≡ mid.did ++ plays.did ∷ [] =
    ap (λ (t : Tape). t.did) plays.tape ∙ ap (λ n. noted n plays.did mid.did) whole ∙ noted_last k plays.did mid.did long in
    let did : plays.did ≡ did_again one =
    last_of k mid.did plays.did (did_again one) long (ap (λ l. slice_get l k) (sym new_did) ∙ same) in
    record {
      again = record {
        first = ap (λ (t : Tape). t.first) plays.tape ∙ ap (λ (t : Tape). t.first) added ∙ h.again.first;
        lines = ap (λ (t : Tape). t.lines) plays.tape ∙ ap (λ (t : Tape). t.lines) added
            ∙ ap (λ l. l ++ line_again one (text_of (suc k) tape) ∷ []) h.again.lines
            ∙ sym (lines_again-more k tape.did tape.lines one is lt);
        did = new_did ∙ ap (λ d. mid.did ++ d ∷ []) did ∙ ap (λ l. l ++ did_again one ∷ []) mid_did
            ∙ sym (did_again-more k tape.did one is);
        answered = ap (λ (t : Tape). t.answered) plays.tape
            ∙ ap (λ b. b && true) (ap (λ (t : Tape). t.answered) added ∙ h.again.answered);
      };
      behind = record {
        whole = ap (λ (t : Tape). t.whole) plays.tape
            ∙ (let e : mid.whole + 1 ≡ suc k = omega (arith, whole) in e);
        back = ap (λ (t : Tape). t.back) plays.tape;
      };
      holds = holds;
    }

-- a line more did the same again
pub again_more : {T T' : Option (List ℕ)} {outcome : Outcome} (settings : Settings)
    (tape old mid new : Tape) (line : ℕ) (one : Did) → 0 < line → line ≤ length tape.did → line ≤ length tape.lines
    → line_at line tape.did ≡ Some one
    → mid ≡ record old { lines = old.lines ++ line_again one (text_of line tape) ∷ [] }
    → Plays mid new T T' (Ok outcome) → line_at line new.did ≡ Some (did_again one) → HoldsTape new
    → IsAgainTo settings tape (line - 1) old → IsAgainTo settings tape line new
again_more settings tape old mid new zero one some le lt is added plays same holds h = absurd (omega arith)
again_more settings tape old mid new (suc k) one some le lt is added plays same holds h =
    let before : suc k - 1 ≡ k = omega arith in
    again_next settings tape old mid new k one is le (omega arith) added plays same
    holds (subst (λ n. IsAgainTo settings tape n old) before h)
