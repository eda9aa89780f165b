-- Lines ahead of the place that are dropped.
use Rattle.std.proofs.Common.{◌≡◌, ℕ, ◌+◌, ◌-◌, ◌<◌, ◌≤◌, zero, suc, List, [], ◌∷◌, ◌++◌, length, take, drop, Some, None, Ok}
use Rattle.std.proofs.Common.{refl, sym, ap, ◌∙◌, subst, arith}
use Rattle.std.specs.Prelude.{All, get_or, if◌then◌else◌, slice_get}
use Rattle.std.proofs.lemmas.List.{append-nil, append_assoc, drop_more, get_or-take, length-append, length-take, length-take-le, take_all}
use Rattle.std.proofs.lemmas.List.{take-append-le}
use Rattle.std.proofs.lemmas.List.Elements.{All-append, All-cons}
use Rattle.std.proofs.lemmas.Option.{get_or_from_slice_get, slice_get_within}
use Rattle.em_line.specs.Grammar.{parsed_line}
use Rattle.em_script.specs.declared.outcome.Outcome.TheVariants.{Done}
use Rattle.em_named.specs.Names.{after_line, names}
use Rattle.em_named.specs.Place.{kept_of}
use Rattle.em_named.specs.declared.did.Did.{Did}
use Rattle.em_named.specs.declared.did.Did.TheVariants.{TookBack}
use Rattle.em_named.specs.declared.place.Place.{Place}
use Rattle.em_named.proofs.NameLaws.{drop-drop, names-more}
use Rattle.em_named.proofs.PlaceLaws.{kept-within, place-kept}
use Rattle.em_tape.specs.Kind.{LeavesDriver, SaysBack, SaysOfDriver}
use Rattle.em_tape.specs.Tape.{Tape, line_here, standing}
use Rattle.em_tape.specs.Moves.{IsCut, IsCutPlace, IsPartlyCut, Plays, TakesBack, TakesFewerBack, TakesNext, has_at, noted}
use Rattle.em_tape.proofs.NotedLaws.{noted_at}

abbrev IsBackLine : List ℕ → Type 0
IsBackLine line = SaysBack (parsed_line line)

get-none : (xs : List Did) (k : ℕ) → length xs ≤ k → slice_get xs k ≡ None
get-none [] k le = refl
get-none (x ∷ xs) zero le = absurd (omega arith)
get-none (x ∷ xs) (suc k) le = get-none xs k (omega arith)

none-noted : (k : ℕ) (d : Did) (did : List Did) → length did ≤ k → noted k d did ≡ did ++ d ∷ []
none-noted k d did past =
    let none : slice_get did k ≡ None = get-none did k past in
    ap (λ found. if has_at found d then did else take k did ++ d ∷ []) none
    ∙ ap (λ l. l ++ d ∷ []) (take_all k did past)

-- nothing is taken back yet
pub takes_none : (tape : Tape) → tape.back ≡ 0 → tape.whole ≡ length tape.lines → length tape.did ≡ length tape.lines
    → TakesBack tape tape 0
takes_none tape back whole did = record {
  first = refl;
  more = [];
  lines = sym (append-nil tape.lines);
  says = λ k default lt. absurd (omega arith);
  back = back;
  whole = whole;
  did = did;
  stands = refl;
}

-- a line was added, and dropped again
pub added_and_dropped : {old mid same new : Tape} (line : List ℕ) → old.whole ≡ length old.lines
    → length old.did ≡ length old.lines → mid ≡ record old { lines = old.lines ++ line ∷ [] } → same ≡ mid
    → new ≡ record same { lines = take same.whole same.lines; did = take same.whole same.did } → new ≡ old
added_and_dropped {old = old} line whole did added stays dropped =
    let lines : take old.whole (old.lines ++ line ∷ []) ≡ old.lines =
    take-append-le old.whole old.lines (line ∷ []) (omega arith) ∙ take_all old.whole old.lines (omega arith) in
    let all : take old.whole old.did ≡ old.did = take_all old.whole old.did (omega arith) in
    dropped ∙ ap (λ (t : Tape). record t { lines = take t.whole t.lines; did = take t.whole t.did }) (stays ∙ added)
    ∙ ap (λ ls. record old { lines = ls; did = take old.whole old.did }) lines
    ∙ ap (λ ds. record old { lines = old.lines; did = ds }) all

-- so much, and then more
pub takes_more : {old mid new : Tape} (m n : ℕ) → TakesBack old mid m → TakesBack mid new n → TakesBack old new (m + n)
takes_more {old = old} {mid = mid} {new = new} m n one two = record {
  first = two.first ∙ one.first;
  more = one.more ++ two.more;
  lines = two.lines ∙ ap (λ l. l ++ two.more) one.lines ∙ append_assoc old.lines one.more two.more;
  says = All-append IsBackLine one.more two.more one.says two.says;
  back = two.back;
  whole = two.whole;
  did = two.did;
  stands = two.stands ∙ ap (drop n) one.stands ∙ drop-drop m n (names old.did);
}

get-pushed : (xs : List (List ℕ)) (x : List ℕ) → slice_get (xs ++ x ∷ []) (length xs) ≡ Some x
get-pushed [] x = refl
get-pushed (y ∷ xs) x = get-pushed xs x

-- by one line
pub takes_line : {old mid new : Tape} (line : List ℕ) (events : ℕ) → old.whole ≡ length old.lines
    → length old.did ≡ length old.lines → mid ≡ record old { lines = old.lines ++ line ∷ [] } → TakesNext mid new events
    → TakesBack old new events
takes_line {old = old} {mid = mid} {new = new} line events whole did is next =
    let all = old.lines ++ line ∷ [] in
    let there : slice_get mid.lines mid.whole ≡ Some line =
    ap (λ (t : Tape). slice_get t.lines t.whole) is ∙ ap (slice_get all) whole ∙ get-pushed old.lines line in
    let some : Some next.line ≡ Some line = sym next.next ∙ there in
    let one : next.line ≡ line = cc in
    let says : IsBackLine line = subst IsBackLine one next.says in
    let found : slice_get new.did old.whole ≡ Some (TookBack events) =
    ap (λ (t : Tape). slice_get new.did t.whole) (sym is) ∙ next.did in
    let from : Plays (record old { lines = all }) new None None (Ok Done) =
    subst (λ m. Plays m new None None (Ok Done)) is next.plays in
    let d = from.did in
    let now : new.did ≡ old.did ++ d ∷ [] =
    ap (λ (t : Tape). t.did) from.tape ∙ none-noted old.whole d old.did (omega arith) in
    let at : slice_get new.did old.whole ≡ Some d =
    ap (λ ds. slice_get ds old.whole) (ap (λ (t : Tape). t.did) from.tape) ∙ noted_at old.whole d old.did (omega arith) in
    let took : Some d ≡ Some (TookBack events) = sym at ∙ found in
    let same : d ≡ TookBack events = cc in
    let lines : new.lines ≡ all = ap (λ (t : Tape). t.lines) from.tape in
    let long = length-append old.lines (line ∷ []) in
    let longer = length-append old.did (d ∷ []) in
    record {
      first = ap (λ (t : Tape). t.first) from.tape;
      more = line ∷ [];
      lines = lines;
      says = All-cons IsBackLine line [] says (λ k default lt. absurd (omega arith));
      back = ap (λ (t : Tape). t.back) from.tape;
      whole = omega (arith, ap (λ (t : Tape). t.whole) from.tape, ap length lines, long);
      did = omega (arith, ap length now, longer, ap length lines, long);
      stands = ap names now ∙ names-more old.did d ∙ ap (λ x. after_line (suc (length old.did)) x (names old.did)) same;
    }

-- lines are made whole, those behind them dropped, and others put there
pub is_cut : {old mid cut new : Tape} {place : Place} {gone : ℕ} → IsCutPlace old place
    → mid ≡ record old { whole = place.whole; back = 0; session = mid.session } → (old.back ≡ 0 → mid ≡ old)
    → cut ≡ record mid { lines = take mid.whole mid.lines; did = take mid.whole mid.did }
    → gone ≡ length mid.lines - mid.whole → TakesBack cut new place.back → (place.back ≡ 0 → new ≡ cut)
    → IsCut old new gone
is_cut {old = old} {mid = mid} {cut = cut} {new = new} {place = place} here mid_is mid_same cut_is gone_is takes stays =
    let line = place.whole in
    let cut_of : cut ≡ record old {
      lines = take line old.lines;
      did = take line old.did;
      whole = line;
      back = 0;
      session = mid.session;
    } = cut_is ∙ ap (λ (t : Tape). record t { lines = take t.whole t.lines; did = take t.whole t.did }) mid_is in
    record {
      line = line;
      whole = λ none. ap (λ (p : Place). p.whole) (here.whole none);
      within = here.within;
      least = here.least;
      most = here.most;
      leave = here.leave;
      dropped = gone_is ∙ ap (λ (t : Tape). length t.lines - t.whole) mid_is;
      first = takes.first ∙ ap (λ (t : Tape). t.first) cut_of;
      more = takes.more;
      lines = takes.lines ∙ ap (λ (t : Tape). t.lines ++ takes.more) cut_of;
      says = takes.says;
      back = takes.back;
      last = takes.whole;
      did = takes.did;
      stands = ap (λ n. drop n (names (take new.whole new.did))) takes.back
          ∙ ap names (take_all new.whole new.did (omega (arith, takes.did, takes.whole))) ∙ takes.stands
          ∙ ap (λ (t : Tape). drop place.back (names t.did)) cut_of ∙ here.stands;
      here = λ none.
          let same = stays (ap (λ (p : Place). p.back) (here.whole none)) in (
            ap (λ (t : Tape). t.session) (same ∙ cut_of) ∙ ap (λ (t : Tape). t.session) (mid_same none),
            ap (λ (t : Tape). t.lines) (same ∙ cut_of),
          );
    }

-- the same where not all are taken back
pub is_partly_cut : {old mid cut new : Tape} {place : Place} → IsCutPlace old place
    → mid ≡ record old { whole = place.whole; back = 0; session = mid.session }
    → cut ≡ record mid { lines = take mid.whole mid.lines; did = take mid.whole mid.did }
    → TakesFewerBack cut new place.back → IsPartlyCut old new
is_partly_cut {old = old} {mid = mid} {cut = cut} {new = new} {place = place} here mid_is cut_is takes = record {
  place = place;
  is = here;
  session = mid.session;
  takes = subst (λ t. TakesFewerBack t new place.back)
      (cut_is ∙ ap (λ (t : Tape). record t { lines = take t.whole t.lines; did = take t.whole t.did }) mid_is) takes;
}

-- ---- where lines may be dropped

-- one line less stays
pub leave_more : (line whole : ℕ) (lines : List (List ℕ)) (text : List ℕ) → 0 < line → line ≤ whole
    → slice_get lines (line - 1) ≡ Some text → LeavesDriver (parsed_line text)
    → All (λ l. LeavesDriver (parsed_line l)) (drop line (take whole lines))
    → All (λ l. LeavesDriver (parsed_line l)) (drop (line - 1) (take whole lines))
leave_more line whole lines text some le at leaves all =
    let k = line - 1 in
    let lt : k < length lines = slice_get_within lines k text at in
    let long : k < length (take whole lines) = omega (arith, length-take whole lines) in
    let e : k + 1 ≡ line = omega arith in
    let here : get_or (take whole lines) k text ≡ text =
    get_or-take whole lines k text (omega arith) ∙ get_or_from_slice_get lines k text text at in
    subst (All (λ l. LeavesDriver (parsed_line l))) (sym (drop_more (take whole lines) k text long
    ∙ ap (λ x. x ∷ drop (k + 1) (take whole lines)) here ∙ ap (λ n. text ∷ drop n (take whole lines)) e))
    (All-cons (λ l. LeavesDriver (parsed_line l)) text (drop line (take whole lines)) leaves all)

here_is : (tape : Tape) (line depth : ℕ) → 0 < tape.back
    → kept_of (take line tape.did) depth ≡ kept_of (take tape.whole tape.did) tape.back
    → line_here tape ≡ (kept_of (take line tape.did) depth).whole
here_is tape line depth some same =
    ap (λ (p : Place). p.whole) (place-kept (take tape.whole tape.did) tape.back some ∙ sym same)

-- so many lines stay
pub cut_at : (tape : Tape) (line depth : ℕ) → 0 < tape.back → line ≤ tape.whole → tape.whole ≤ length tape.did
    → kept_of (take line tape.did) depth ≡ kept_of (take tape.whole tape.did) tape.back
    → drop depth (names (take line tape.did)) ≡ standing tape
    → All (λ l. LeavesDriver (parsed_line l)) (drop line (take tape.whole tape.lines))
    → (line_here tape < line → (last : List ℕ) × (slice_get tape.lines (line - 1) ≡ Some last)
    × SaysOfDriver (parsed_line last)) → IsCutPlace tape (record { whole = line; back = depth })
cut_at tape line depth some le within same stands leave most =
    let did = tape.did in
    let kept = kept-within (take line did) depth in
    let long = length-take-le line did (omega arith) in
    let here = here_is tape line depth some same in
    record {
      whole = λ none. absurd (omega arith);
      within = le;
      least = omega (arith, here, kept, long);
      most = most;
      leave = leave;
      stands = stands;
    }

-- and the place is there
pub cut_here : (tape : Tape) (line depth : ℕ) → 0 < tape.back → line ≤ tape.whole → tape.whole ≤ length tape.did
    → kept_of (take line tape.did) depth ≡ kept_of (take tape.whole tape.did) tape.back
    → drop depth (names (take line tape.did)) ≡ standing tape
    → All (λ l. LeavesDriver (parsed_line l)) (drop line (take tape.whole tape.lines))
    → kept_of (take line tape.did) depth ≡ record { whole = line; back = depth }
    → IsCutPlace tape (record { whole = line; back = depth })
cut_here tape line depth some le within same stands leave there =
    cut_at tape line depth some le within same stands leave (λ less.
    let at = here_is tape line depth some same ∙ ap (λ (p : Place). p.whole) there in
    absurd (omega arith))
