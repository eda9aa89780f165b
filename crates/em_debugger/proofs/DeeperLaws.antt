-- Second tapes.
use Rattle.std.proofs.Common.{◌≡◌, ◌∙◌, ℕ, ◌-◌, ◌<◌, ◌≤◌, zero, suc, Bool, true, false, cond, leb, List, [], ◌∷◌}
use Rattle.std.proofs.Common.{length, map, take, refl, ap, arith}
use Rattle.std.specs.Prelude.{max}
use Rattle.std.proofs.lemmas.List.{length-map, length-take-le}
use Rattle.em_journal.specs.declared.settings.Settings.{Settings}
use Rattle.em_named.specs.Numbers.{end_of, line_of, performed_by}
use Rattle.em_named.specs.declared.did.Did.{Did}
use Rattle.em_named.specs.declared.did.Did.TheVariants.{Performed, TookBack}
use Rattle.em_named.proofs.NumberLaws.{end-take, line-ends, line-within}
use Rattle.em_tape.specs.Tape.{HoldsTape, Tape, event_of}
use Rattle.em_debugger.specs.declared.deeper.Unseen.{Unseen}
use Rattle.em_debugger.specs.declared.deeper.Unseen.TheVariants.{Memory, TooLong}
use Rattle.em_debugger.specs.Deeper.{IsAgain, IsAgainTo, IsTooLong, IsUnseen, did_again}
use Rattle.em_debugger.specs.Search.{next_unseen}
use Rattle.em_debugger.proofs.NumberLaws.{event_at-falls}

-- at another place of such a tape
pub again_on : (settings : Settings) (tape old new : Tape)
    → new ≡ record old { whole = new.whole; back = new.back; session = new.session } → HoldsTape new
    → IsAgain settings tape old → IsAgain settings tape new
again_on settings tape old new kept holds h = record {
  lines = h.lines;
  known = h.known;
  again = record {
    first = ap (λ (t : Tape). t.first) kept ∙ h.again.first;
    lines = ap (λ (t : Tape). t.lines) kept ∙ h.again.lines;
    did = ap (λ (t : Tape). t.did) kept ∙ h.again.did;
    answered = ap (λ (t : Tape). t.answered) kept ∙ h.again.answered;
  };
  holds = holds;
}

-- so it is after two moves
pub kept_on : (first old new : Tape)
    → old ≡ record first { whole = old.whole; back = old.back; session = old.session }
    → new ≡ record old { whole = new.whole; back = new.back; session = new.session }
    → new ≡ record first { whole = new.whole; back = new.back; session = new.session }
kept_on first old new was is =
    is ∙ ap (λ (t : Tape). record t { whole = new.whole; back = new.back; session = new.session }) was

-- right behind the last of its lines
pub again_to : (settings : Settings) (tape deep : Tape) (line : ℕ) → line ≤ length tape.did
    → IsAgainTo settings tape line deep → IsAgain settings tape deep
again_to settings tape deep line le h = record { lines = line; known = le; again = h.again; holds = h.holds }

pub unseen_again : (settings : Settings) (tape deep : Tape) (event : ℕ) (why : Unseen) → IsAgain settings tape deep
    → IsTooLong event deep why → IsUnseen settings tape event why
unseen_again settings tape deep event (Memory refused) again h = tt
unseen_again settings tape deep event (TooLong line) again h = (deep, again, h)

-- what the journal does not hold is older
pub unseen_falls : (tape : Tape) → 0 < length tape.session.machine.past → 0 < next_unseen tape 0
    → next_unseen tape 0 < event_of tape
unseen_falls tape held some =
    let far = max (length tape.session.machine.past) 0 in
    let falls = event_at-falls tape 0 far (omega arith) some in
    omega (arith, falls)

-- ---- what lines do again

performed_again : (d : Did) → performed_by (did_again d) ≡ performed_by d
performed_again (Performed k) = refl
performed_again (TookBack zero) = refl
performed_again (TookBack (suc k)) = refl

end_again : (k : ℕ) (did : List Did) → end_of k (map did_again did) ≡ end_of k did
end_again zero did = refl
end_again (suc k) [] = refl
end_again (suc k) (d ∷ did) = omega (arith, performed_again d, end_again k did)

line_by : (n : ℕ) (d : Did) (did again : List Did) (first : Bool) → leb (suc n) (performed_by d) ≡ first
    → line_of (suc n - performed_by d) (map did_again (take (line_of (suc n - performed_by d) did) did))
    ≡ line_of (suc n - performed_by d) did
    → line_of (suc n) (map did_again (take (cond first 1 (suc (line_of (suc n - performed_by d) did))) (d ∷ did)))
    ≡ cond first 1 (suc (line_of (suc n - performed_by d) did))
line_by n d did again true is h =
    ap (λ b. cond b 1 (suc (line_of (suc n - performed_by (did_again d)) [])))
    (ap (leb (suc n)) (performed_again d) ∙ is)
line_by n d did again false is h =
    let L = line_of (suc n - performed_by d) did in
    let rest = map did_again (take L did) in
    ap (λ b. cond b 1 (suc (line_of (suc n - performed_by (did_again d)) rest)))
    (ap (leb (suc n)) (performed_again d) ∙ is)
    ∙ ap (λ p. suc (line_of (suc n - p) rest)) (performed_again d) ∙ ap suc h

-- the line of an event is the same
line-again : (n : ℕ) (did : List Did) → line_of n (map did_again (take (line_of n did) did)) ≡ line_of n did
line-again zero did = refl
line-again (suc n) [] = refl
line-again (suc n) (d ∷ did) =
    line_by n d did [] (leb (suc n) (performed_by d)) refl (line-again (suc n - performed_by d) did)

pub same_line : (settings : Settings) (tape deep : Tape) (n : ℕ) → IsAgainTo settings tape (line_of n tape.did) deep
    → line_of n deep.did ≡ line_of n tape.did
same_line settings tape deep n h =
    ap (line_of n) h.again.did ∙ line-again n tape.did

pub still_performed : (settings : Settings) (tape deep : Tape) (n : ℕ) → 0 < n
    → n ≤ end_of (length tape.did) tape.did → IsAgainTo settings tape (line_of n tape.did) deep
    → n ≤ end_of (length deep.did) deep.did
still_performed settings tape deep n some le h =
    let line = line_of n tape.did in
    let first = take line tape.did in
    let ends = line-ends n tape.did some le in
    let long : length first ≡ line = length-take-le line tape.did (line-within n tape.did) in
    let same : end_of (length deep.did) deep.did ≡ end_of line tape.did =
    ap (λ (l : List Did). end_of (length l) l) h.again.did
    ∙ ap (λ k. end_of k (map did_again first)) (length-map first did_again ∙ long) ∙ end_again line first
    ∙ end-take line line tape.did (omega arith) in
    omega (arith, same, ends.behind)
