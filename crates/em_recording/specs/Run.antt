-- The records of a run: of calls of a machine, one for each event that stands, the newest first.
use Rattle.std.specs.Prelude.{◌≡◌, ℕ, ◌<◌, zero, suc, List, [], ◌∷◌, length, drop, Some, slice_get}
use Rattle.em_regs.specs.declared.profile.Profile.{Profile}
use Rattle.em_step.specs.State.{State}
use Rattle.em_journal.specs.History.{Call, performs, refuses, goes_back, is_empty, Does}
use Rattle.em_journal.specs.View.{View, opening, states}
use Rattle.em_recording.specs.Rebuild.{IsRecordOf, put_on, take_off}
use Rattle.em_recording.specs.Shown.{Shown}
use Rattle.em_recording.specs.declared.recorded.Recorded.{Recorded}

-- what is shown after the events of the records, from what was shown before the oldest of them
abbrev pub put_all_on : List Recorded → Shown → Shown
put_all_on [] first = first
put_all_on (r ∷ records) first = put_on r (put_all_on records first)

-- what was shown before the newest k of them, from what is shown after the newest
abbrev pub take_some_off : ℕ → List Recorded → Shown → Shown
take_some_off zero records now = now
take_some_off (suc k) [] now = now
take_some_off (suc k) (r ∷ records) now = take_some_off k records (take_off r now)

-- a call, and the records before it and after it: a performed event's record comes first, a step back drops it, and
-- what is refused leaves them
abbrev pub Records : View → List Recorded → Call → View → List Recorded → Type 0
Records v before (performs e answer) w after =
    Does v (performs e answer) w × (0 < length w.past)
    × ((r : Recorded) × IsRecordOf w 1 r × (after ≡ r ∷ before))
Records v before (refuses e refusal) w after = Does v (refuses e refusal) w × (after ≡ before)
Records v before goes_back w after = Does v goes_back w × (after ≡ drop 1 before)
Records v before is_empty w after = Does v is_empty w × (after ≡ before)

-- one call after the other
abbrev pub RecordsAll : View → List Recorded → List Call → View → List Recorded → Type 0
RecordsAll v before [] w after = (w ≡ v) × (after ≡ before)
RecordsAll v before (call ∷ calls) w after =
    (m : View) × (records : List Recorded) × Records v before call m records × RecordsAll m records calls w after

-- from a machine that has performed nothing
abbrev pub IsRecording : ℕ → State → List Call → View → List Recorded → Type 0
IsRecording budget s calls v records = RecordsAll (opening budget s) [] calls v records

-- ---- the newest events of one journal
-- the records of the events that lead to the state n steps back, and on from there to older ones
abbrev pub AreRecordsFrom : View → ℕ → List Recorded → Type 0
AreRecordsFrom v n [] = Unit {0}
AreRecordsFrom v n (r ∷ records) = IsRecordOf v (suc n) r × AreRecordsFrom v (suc n) records

-- each state that steps back lead to is of the profile
abbrev pub AreOfProfile : Profile → View → Type 0
AreOfProfile profile v = (k : ℕ) (s : State) → slice_get (states v) k ≡ Some s → s.profile ≡ profile
