-- The states that a machine comes to.
use Rattle.std.proofs.Common.{ℕ, List, [], ◌∷◌, refl, sym, subst}
use Rattle.std.specs.Prelude.{All}
use Rattle.std.proofs.lemmas.List.Elements.{All-cons, All-head, All-nil, All-tail, All-take}
use Rattle.em_regs.specs.declared.profile.Profile.{Profile}
use Rattle.em_step.specs.Cells.{fresh_as, shows}
use Rattle.em_step.specs.Cost.{cost}
use Rattle.em_step.specs.State.{State}
use Rattle.em_journal.specs.History.{Call, performs, refuses, goes_back, is_empty, Does, Leads, Run}
use Rattle.em_journal.specs.View.{View, back_to, opening, reach, states}
use Rattle.em_step_laws.specs.Reached.{IsReached}

-- all that it shows and can go back to
abbrev AreReached : View → Type 0
AreReached v = All IsReached (states v)

back_reached : (past : List State) (v : View) → All IsReached past → AreReached v → AreReached (back_to past v)
back_reached [] v older h = h
back_reached (s ∷ past) v older h = older

call_reached : (v w : View) (call : Call) → Does v call w → AreReached v → AreReached w
call_reached v w (performs e answer) does h =
    let here = All-head IsReached v.present v.past h in
    let now : IsReached w.present = record {
      profile = here.profile;
      base = here.base;
      size = here.size;
      eeprom = here.eeprom;
      events = e ∷ here.events;
      performed = (v.present, here.performed, (answer, does.0));
    } in
    let most : ℕ = reach v.budget (cost v.present e ∷ v.costs) in
    subst AreReached (sym does.1)
    (All-cons IsReached w.present _ now (All-take IsReached most (states v) h))
call_reached v w (refuses e refusal) does h = subst AreReached (sym does.1) h
call_reached v w goes_back does h =
    subst AreReached (sym does.1) (back_reached v.past v (All-tail IsReached v.present v.past h) h)
call_reached v w is_empty does h = subst AreReached (sym does.1) h

run_reached : (v w : View) (calls : List Call) → Run v calls w → AreReached v → AreReached w
run_reached v w [] run h = subst AreReached (sym run) h
run_reached v w (call ∷ calls) (m, does, run) h = run_reached m w calls run (call_reached v m call does h)

pub machine_reached : (profile : Profile) (budget base size : ℕ) (eeprom : List ℕ) (calls : List Call) (v : View)
    → Leads budget (shows (fresh_as profile base size eeprom)) calls v → All IsReached (states v)
machine_reached profile budget base size eeprom calls v run =
    let s : State = shows (fresh_as profile base size eeprom) in
    let new : IsReached s = record { profile = profile; base = base; size = size; eeprom = eeprom; events = []; performed = refl } in
    run_reached (opening budget s) v calls run (All-cons IsReached s [] new (All-nil IsReached))
