-- Lines that are played, and how they are counted.
use Rattle.std.proofs.Common.{◌≡◌, ℕ, ◌+◌, ◌-◌, ◌<◌, ◌≤◌, Bool, true, false, cond, List, [], ◌∷◌, ◌++◌}
use Rattle.std.proofs.Common.{length}
use Rattle.std.proofs.Common.{Option, Some, None, refl, sym, ap, ◌∙◌, arith, append-nil}
use Rattle.std.specs.Prelude.{slice_get}
use Rattle.std.proofs.lemmas.List.{length_push}
use Rattle.std.proofs.lemmas.List.Edits.{length-insert}
use Rattle.std.proofs.lemmas.List.Elements.{filter-append}
use Rattle.std.proofs.lemmas.Option.{slice_get_within}
use Rattle.em_console.specs.Turns.{Leads}
use Rattle.em_console.proofs.ServingLaws.{Leads-append}
use Rattle.em_script.specs.declared.fault.BenchFault.{BenchFault}
use Rattle.em_tape.specs.Moves.{noted}
use Rattle.em_tape.specs.Tape.{Tape, event_of}
use Rattle.em_debugger.specs.declared.debugger.Debugger.{Debugger}
use Rattle.em_debugger.specs.declared.performing.Performed.{Performed}
use Rattle.em_debugger.specs.declared.played.Played.{Played}
use Rattle.em_prompt.specs.declared.typed.Side.{Side}
use Rattle.em_debugger.specs.Engines.{EngagesBy, engine_behind, step_line}
use Rattle.em_debugger.specs.Performing.{Performs, PerformsNext}
use Rattle.em_debugger.specs.Place.{line_here}
use Rattle.em_debugger.specs.Counted.{counted}
use Rattle.em_debugger.specs.Played.{is_wrong, wrong_ones, CountsUp, PlayedTo, PlaysAll}
use Rattle.em_debugger.proofs.NotedLaws.{noted_within}
use Rattle.em_debugger.proofs.PlaceLaws.{line_here-whole, line_here-within}

-- ---- counting

wrong_push : (lines : List Performed) (p : Performed) (wrong : Bool) → is_wrong p ≡ wrong
    → wrong_ones (lines ++ p ∷ []) ≡ wrong_ones lines ++ cond wrong (p ∷ []) []
wrong_push lines p wrong is =
    filter-append is_wrong lines (p ∷ []) ∙ ap (λ b. wrong_ones lines ++ cond b (p ∷ []) []) is

first_none : (xs : List Performed) → slice_get xs 0 ≡ None → xs ≡ []
first_none [] none = refl
first_none (x ∷ xs) none = absurd (cc)

first_stays : (xs : List Performed) (p first : Performed) → slice_get xs 0 ≡ Some first
    → (slice_get (xs ++ p ∷ []) 0 ≡ Some first) × (0 < length xs)
first_stays [] p first is = absurd (cc)
first_stays (x ∷ xs) p first is = (is, omega arith)

count_push : (lines : List Performed) (p : Performed) (old new : ℕ) → old ≡ counted (length lines)
    → new ≡ counted (old + 1) → new ≡ counted (length (lines ++ p ∷ []))
count_push lines p old new was is =
    let long : length (lines ++ p ∷ []) ≡ length lines + 1 = length_push lines p in omega arith

-- a line that is not wrong
pub counts_fine : (lines : List Performed) (p : Performed) (old new : Played) → is_wrong p ≡ false → CountsUp lines old
    → new.lines ≡ counted (old.lines + 1) → new.first ≡ old.first → new.others ≡ old.others
    → CountsUp (lines ++ p ∷ []) new
counts_fine lines p old new fine h count first others =
    let same : wrong_ones (lines ++ p ∷ []) ≡ wrong_ones lines =
    wrong_push lines p false fine ∙ append-nil (wrong_ones lines) in
    record {
      count = count_push lines p old.lines new.lines h.count count;
      first = first ∙ h.first ∙ ap (λ xs. slice_get xs 0) (sym same);
      others = others ∙ h.others ∙ ap (λ xs. counted (length xs - 1)) (sym same);
    }

-- the first that is
pub counts_first : (lines : List Performed) (p : Performed) (old new : Played) → is_wrong p ≡ true → CountsUp lines old
    → old.first ≡ None → new.lines ≡ counted (old.lines + 1) → new.first ≡ Some p → new.others ≡ old.others
    → CountsUp (lines ++ p ∷ []) new
counts_first lines p old new wrong h none count first others =
    let empty : wrong_ones lines ≡ [] = first_none (wrong_ones lines) (sym h.first ∙ none) in
    let one : wrong_ones (lines ++ p ∷ []) ≡ p ∷ [] =
    wrong_push lines p true wrong ∙ ap (λ xs. xs ++ p ∷ []) empty in
    record {
      count = count_push lines p old.lines new.lines h.count count;
      first = first ∙ ap (λ xs. slice_get xs 0) (sym one);
      others = others ∙ h.others ∙ ap (λ xs. counted (length xs - 1)) empty
          ∙ ap (λ xs. counted (length xs - 1)) (sym one);
    }

-- one more that is
pub counts_more : (lines : List Performed) (p first : Performed) (old new : Played) → is_wrong p ≡ true
    → CountsUp lines old → old.first ≡ Some first → new.lines ≡ counted (old.lines + 1) → new.first ≡ old.first
    → new.others ≡ counted (old.others + 1) → CountsUp (lines ++ p ∷ []) new
counts_more lines p first old new wrong h some count same others =
    let xs = wrong_ones lines in
    let is = first_stays xs p first (sym h.first ∙ some) in
    let pushed : wrong_ones (lines ++ p ∷ []) ≡ xs ++ p ∷ [] = wrong_push lines p true wrong in
    let long : length (wrong_ones (lines ++ p ∷ [])) ≡ length xs + 1 = ap length pushed ∙ length_push xs p in
    let were : old.others ≡ counted (length xs - 1) = h.others in
    let some_were : 0 < length xs = is.1 in
    record {
      count = count_push lines p old.lines new.lines h.count count;
      first = same ∙ some ∙ sym is.0 ∙ ap (λ ys. slice_get ys 0) (sym pushed);
      others = omega arith;
    }

-- ---- playing

-- a line that is performed is the next one, and none is added or lost
pub record Goes (old new : Debugger) : Type 0 where
  pub here : line_here new.tape ≡ line_here old.tape + 1
  pub lines : length new.tape.lines ≡ length old.tape.lines
  pub ahead : line_here old.tape < length old.tape.lines
  pub whole : new.tape.whole ≤ length new.tape.lines

pub performs_next : (old new : Debugger) (p : Performed) → Performs old new p → Goes old new
performs_next old new p h =
    let before = h.before in
    let whole_is : before.whole ≡ line_here old.tape = ap (λ (t : Tape). t.whole) h.whole.tape in
    let new_lines : length new.tape.lines ≡ length before.lines = ap (λ (t : Tape). length t.lines) h.plays.tape in
    let new_whole : new.tape.whole ≡ before.whole + 1 = ap (λ (t : Tape). t.whole) h.plays.tape in
    let within : line_here old.tape ≤ length old.tape.did = (line_here-within old.tape).0 in
    let known : length before.did ≡ length old.tape.did = ap (λ (t : Tape). length t.did) h.whole.tape in
    let noted_now : length new.tape.did ≡ length (noted before.whole h.plays.did before.did) =
    ap (λ (t : Tape). length t.did) h.plays.tape in
    let more = noted_within before.whole h.plays.did before.did (omega (arith, whole_is, known, within)) in
    let new_here : line_here new.tape ≡ new.tape.whole =
    line_here-whole new.tape (omega (arith, new_whole, noted_now, more)) (ap (λ (t : Tape). t.back) h.plays.tape) in
    let lines : length before.lines ≡ length old.tape.lines = ap (λ (t : Tape). length t.lines) h.whole.tape in
    let ahead : before.whole < length before.lines =
    slice_get_within before.lines before.whole h.plays.line h.plays.next in
    record { here = omega arith; lines = new_lines ∙ lines; ahead = omega (arith, ahead); whole = omega (arith, ahead) }

-- how much there is to do: lines that lie ahead, and steps that engines may make
abbrev pub to_do : Debugger → ℕ
to_do d = length d.tape.lines - line_here d.tape + d.engines

-- a line that is performed is the next one, and there is one less to do
pub record GoesOn (old new : Debugger) : Type 0 where
  pub here : line_here new.tape ≡ line_here old.tape + 1
  pub left : to_do new + 1 ≡ to_do old

engages_on : (old between new : Debugger) (side : Option Side) → Goes old between → between.engines ≡ old.engines
    → EngagesBy side between new → GoesOn old new
engages_on old between new None goes engines same = record {
  here = ap (λ (d : Debugger). line_here d.tape) same ∙ goes.here;
  left = ap (λ d. to_do d + 1) same ∙ (let e : to_do between + 1 ≡ to_do old = omega (arith, goes.here, goes.lines, goes.ahead, engines) in e);
}
engages_on old between new (Some side) goes engines puts =
    let here : line_here new.tape ≡ line_here between.tape = ap line_here puts.tape in
    let within : between.tape.whole ≤ length between.tape.lines = goes.whole in
    let long = length-insert between.tape.lines between.tape.whole (step_line side) within in
    let lines : length new.tape.lines ≡ length between.tape.lines + 1 =
    ap (λ (t : Tape). length t.lines) puts.tape ∙ long in
    record {
      here = here ∙ goes.here;
      left = omega (arith, here, lines, puts.engines, goes.here, goes.lines, goes.ahead, engines);
    }

pub performs_on : (old new : Debugger) (p : Performed) → PerformsNext old new p → GoesOn old new
unfolding performs_next
performs_on old new p h =
    engages_on old h.between new (engine_behind (event_of old.tape) p h.between)
    (performs_next old h.between p h.performs) h.performs.engines h.engages

-- so the lines come to an end
pub ahead_falls : (old new : Debugger) (p : Performed) → PerformsNext old new p → to_do new < to_do old
ahead_falls old new p h = let on = performs_on old new p h in omega (arith, on.left)

abbrev Step : Debugger → Performed → Debugger → Type 0
Step before line after = PerformsNext before after line

-- so many lines were played
pub record PlaysSo (first now : Debugger) (played : Played) : Type 0 where
  pub lines : List Performed
  pub leads : Leads Step lines first now
  pub counts : CountsUp lines played

pub PlaysSo-more : (first now next : Debugger) (played more : Played) (p : Performed) → PlaysSo first now played
    → PerformsNext now next p → ((lines : List Performed) → CountsUp lines played → CountsUp (lines ++ p ∷ []) more)
    → PlaysSo first next more
PlaysSo-more first now next played more p h performs counts = record {
  lines = h.lines ++ p ∷ [];
  leads = Leads-append Step h.lines (p ∷ []) first now next h.leads (next, performs, refl);
  counts = counts h.lines h.counts;
}

pub PlaysAll-end : (first now last : Debugger) (played : Played) (fault : Option BenchFault) → PlaysSo first now played
    → PlayedTo fault now last → PlaysAll first last played fault
PlaysAll-end first now last played fault h ended =
    record { lines = h.lines; between = now; leads = h.leads; counts = h.counts; ended = ended }
