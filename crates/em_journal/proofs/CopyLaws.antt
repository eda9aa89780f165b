-- What records mean, their copies mean too.
use Rattle.std.proofs.Common.{◌≡◌, ℕ, ◌+◌, List, [], ◌∷◌, ◌++◌, take}
use Rattle.std.proofs.Common.{refl, sym, ap, ◌∙◌, subst, arith}
use Rattle.std.specs.Prelude.{Some, None, slice_get, sum, vec_capacity}
use Rattle.std.proofs.lemmas.List.{take_more}
use Rattle.std.proofs.lemmas.Option.{get_or_from_slice_get, slice_get_within}
use Rattle.em_mem.specs.OldOctets.{OldOctets, given_up}
use Rattle.em_step.specs.Cells.{Cells}
use Rattle.em_step.specs.Copies.{SameRecord}
use Rattle.em_step.specs.Undo.{held}
use Rattle.em_step.specs.declared.undo.Record.{Record}
use Rattle.em_journal.specs.Copies.{AreCopies, room_of}
use Rattle.em_journal.specs.Records.{AreAt, AreSaved, HasSize, costs_by, held_by, undos_of, view_of}
use Rattle.em_journal.specs.View.{View}
use Rattle.em_journal.proofs.RecordsLaws.{AreFields, ready_fields}
use Rattle.em_journal.proofs.SavedLaws.{waiting}

-- one more behind them
pub copies_more : (rs ss : List Record) (r s : Record) → AreCopies rs ss → SameRecord r s
    → AreCopies (rs ++ r ∷ []) (ss ++ s ∷ [])
copies_more [] [] r s all same = (same, tt)
copies_more [] (q ∷ ss) r s all same = absurd all
copies_more (p ∷ rs) [] r s all same = absurd all
copies_more (p ∷ rs) (q ∷ ss) r s all same = (all.0, copies_more rs ss r s all.1 same)

pub copies_next : (rs ss : List Record) (k : ℕ) (r s : Record) → slice_get rs k ≡ Some r → AreCopies (take k rs) ss
    → SameRecord r s → AreCopies (take (k + 1) rs) (ss ++ s ∷ [])
copies_next rs ss k r s is all same =
    let more = take_more rs k r (slice_get_within rs k r is)
    ∙ ap (λ x. take k rs ++ x ∷ []) (get_or_from_slice_get rs k r r is) in
    subst (λ xs. AreCopies xs (ss ++ s ∷ [])) (sym more) (copies_more (take k rs) ss r s all same)

undos_copied : (rs ss : List Record) (o : OldOctets) → AreCopies rs ss → undos_of ss o ≡ undos_of rs o
undos_copied [] [] o all = refl
undos_copied [] (s ∷ ss) o all = absurd all
undos_copied (r ∷ rs) [] o all = absurd all
undos_copied (r ∷ rs) (s ∷ ss) o all =
    let rest = undos_copied rs ss (given_up (held s) o) all.1
    ∙ ap (λ n. undos_of rs (given_up n o)) all.0.held in
    λ i. all.0.undo o i ∷ rest i

costs_copied : (rs ss : List Record) → AreCopies rs ss → costs_by ss ≡ costs_by rs
costs_copied [] [] all = refl
costs_copied [] (s ∷ ss) all = absurd all
costs_copied (r ∷ rs) [] all = absurd all
costs_copied (r ∷ rs) (s ∷ ss) all = λ i. all.0.cost i ∷ costs_copied rs ss all.1 i

held_copied : (rs ss : List Record) → AreCopies rs ss → held_by ss ≡ held_by rs
held_copied [] [] all = refl
held_copied [] (s ∷ ss) all = absurd all
held_copied (r ∷ rs) [] all = absurd all
held_copied (r ∷ rs) (s ∷ ss) all = λ i. all.0.held i + held_copied rs ss all.1 i

at_copied : (rs ss : List Record) (o : OldOctets) → AreCopies rs ss → AreAt rs o → AreAt ss o
at_copied [] [] o all at = tt
at_copied [] (s ∷ ss) o all at = absurd all
at_copied (r ∷ rs) [] o all at = absurd all
at_copied (r ∷ rs) (s ∷ ss) o all at = (
  all.0.at o at.0,
  subst (λ n. AreAt ss (given_up n o)) (sym all.0.held) (at_copied rs ss (given_up (held r) o) all.1 at.1),
)

size_copied : (v w : waiting) (rs ss : List Record) (o : OldOctets) (size : ℕ) → room_of v ≡ room_of w
    → held_by ss ≡ held_by rs → HasSize rs o w size → HasSize ss o v size
size_copied None None rs ss o size room held has = has
size_copied None (Some w) rs ss o size room held has = cc
size_copied (Some v) None rs ss o size room held has = cc
size_copied (Some v) (Some w) rs ss o size room held has =
    record {
      before = omega (arith, has.before, held);
      shorter = has.shorter;
      memory = let same : vec_capacity v ≡ vec_capacity w = cc in omega (arith, has.memory, same);
    }

saved_copied : (rs ss : List Record) {o : OldOctets} {v w : waiting} {budget used : ℕ} → AreCopies rs ss
    → room_of v ≡ room_of w → AreSaved rs o w budget used → AreSaved ss o v budget used
saved_copied rs ss {o} {v} {w} {budget} all room a = record {
  at = at_copied rs ss o all a.at;
  counted = a.counted ∙ ap sum (sym (costs_copied rs ss all));
  held = omega (arith, a.held, held_copied rs ss all);
  size = size_copied v w rs ss o (budget + 16_396) room (held_copied rs ss all) a.size;
  top = a.top;
}

undos_are : (rs ss : List Record) {o p : OldOctets} → AreCopies rs ss → p ≡ o → undos_of ss p ≡ undos_of rs o
undos_are rs ss {o} all octets = ap (undos_of ss) octets ∙ undos_copied rs ss o all

-- the fields of a machine's copy belong together
pub copied_fields : {c d : Cells} (rs ss : List Record) {o p : OldOctets} {v w : waiting} {places capacity budget now used : ℕ}
    → d ≡ c → AreCopies rs ss → p ≡ o → room_of v ≡ room_of w → places ≡ capacity → now ≡ used
    → AreFields c rs o w capacity budget used → AreFields d ss p v places budget now
copied_fields rs ss {o} {p} {v} {w} {places} {capacity} {budget} {now} is all octets room same counted old =
    let saved : AreSaved ss p v budget now
    = subst (λ x. AreSaved ss x v budget now) (sym octets)
    (subst (λ n. AreSaved ss o v budget n) (sym counted) (saved_copied rs ss all room old.1)) in
    subst (λ x. AreFields x ss p v places budget now) (sym is) (ready_fields (undos_are rs ss all octets) same counted saved old)

-- and show the same
pub copied_view : {c d : Cells} (rs ss : List Record) {o p : OldOctets} (budget : ℕ) {old : View} → d ≡ c → AreCopies rs ss
    → p ≡ o → view_of budget c (undos_of rs o) ≡ old → view_of budget d (undos_of ss p) ≡ old
copied_view rs ss {o} budget is all octets view = (λ i. view_of budget (is i) (undos_are rs ss all octets i)) ∙ view
