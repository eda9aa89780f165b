-- What has to be known of a state to see a watched thing in it, and how a record takes that back.
use Rattle.std.specs.Prelude.{◌≡◌, ℕ, ◌-◌, if◌then◌else◌, List, ◌++◌, length, take, drop, replicate, map, []}
use Rattle.std.specs.Prelude.{slice_get, slice_index, Some}
use Rattle.em_mem.specs.Memory.{leaves, part}
use Rattle.em_regs.specs.declared.reg.Reg.{Reg}
use Rattle.em_regs.specs.Table.{IsReg}
use Rattle.em_latch.specs.Latches.{causes, mask}
use Rattle.em_phy.specs.Phy.{with_link}
use Rattle.em_phy.specs.declared.word.PhyWord.{PhyWord}
use Rattle.em_step.specs.State.{State, is_adapter}
use Rattle.em_step.specs.Access.{gives}
use Rattle.em_step.specs.Cells.{Cells, shows}
use Rattle.em_step.specs.Undo.{Undo, Fits, undo}
use Rattle.em_journal.specs.View.{View, states}
use Rattle.em_step.specs.Before.{PutsBackWindow}
use Rattle.em_watch.specs.Change.{IsNextChange, StaysTo}
use Rattle.em_watch.specs.Watching.{is_asserted, is_there}
use Rattle.em_watch.specs.declared.range.TheConstants.{MOST_WATCHED}
use Rattle.em_watch.specs.declared.range.MemoryRange.{MemoryRange}
use Rattle.em_watch.specs.declared.watch.Watch.{Watch}
use Rattle.em_watch.specs.declared.watch.Watch.TheVariants as watch
use Rattle.em_watch.specs.declared.watch.Sight.{Sight}
use Rattle.em_watch.specs.declared.watch.Sight.TheVariants as sight
use Rattle.em_watch.specs.declared.traced.Traced.{Traced}
use Rattle.em_watch.specs.declared.traced.Traced.TheVariants.{Nothing, Register, Octets, Line, Link, Frames, Sent, Phy}

abbrev pub traced_register : State → Reg → Traced
traced_register s reg = if is_there s reg then Register reg (gives s reg) else Nothing

abbrev pub traced_octets : ℕ → List ℕ → MemoryRange → Traced
traced_octets base memory range =
    if leaves base memory range.addr range.len then Nothing
    else Octets range (part memory range.addr range.len ++ replicate (MOST_WATCHED - range.len) 0)

-- of a word of the PHY: what it is without a link, and whether there is one
abbrev pub traced_word : State → PhyWord → Traced
traced_word s word =
    if is_adapter s.profile then Phy word (slice_index s.phy.words word.number) s.link else Nothing

-- in a state
abbrev pub traced : Watch → State → Traced
traced (watch.Register reg) s = traced_register s reg
traced (watch.Octets range) s = traced_octets s.base s.memory range
traced watch.Line s = Line (causes s.latches) (mask s.latches)
traced watch.Link s = Link s.link
traced watch.Frames s = Frames (length s.fifo.frames)
traced watch.Sent s = Sent (length s.wire)
traced (watch.Phy word) s = traced_word s word

-- what is seen
abbrev pub shown : Traced → Sight
shown Nothing = sight.Nothing
shown (Register reg value) = sight.Value value
shown (Octets range octets) = sight.Octets octets
shown (Line causes mask) = sight.Line (is_asserted causes mask)
shown (Link up) = sight.Link up
shown (Frames count) = sight.Count count
shown (Sent count) = sight.Count count
shown (Phy word value up) = sight.Value (with_link up word.number value)

-- the octets of a range, with zeros behind them
abbrev pub IsOctets : Traced → Type 0
IsOctets (Octets range octets) = Unit {0}
IsOctets _ = ⊥

abbrev pub octets_of : Traced → List ℕ
octets_of (Octets range octets) = octets
octets_of _ = []

-- the table has the register
abbrev pub IsTraceable : Traced → Type 0
IsTraceable (Register reg value) = IsReg reg
IsTraceable _ = Unit {0}

-- the record makes of it what it was before the event, of whatever is watched
abbrev pub TakesBack : Undo → Traced → Traced → Type 0
TakesBack r t u =
    (w : Watch) (c : Cells) → Fits c r → traced w (shows c) ≡ t → traced w (shows (undo c r)) ≡ u

-- the first n octets are those of memory from a on before the event, and what lies behind them stays
pub record OctetsGoBack (r : Undo) (a n : ℕ) (octets new : List ℕ) : Type 0 where
  pub window : PutsBackWindow r a (take n octets) (take n new)
  pub behind : drop n new ≡ drop n octets
  pub size : length new ≡ length octets

-- so many steps back
abbrev pub IsTraced : Watch → View → ℕ → Traced → Type 0
IsTraced w v k t = slice_get (map (traced w) (states v)) k ≡ Some t

-- what is traced so many steps back is that further back, of whatever is watched
abbrev pub LeadsBack : View → ℕ → Traced → ℕ → Traced → Type 0
LeadsBack v from t to u = (w : Watch) → IsTraced w v from t → IsTraced w v to u

-- and there is the next change
abbrev pub ChangesNext : View → ℕ → Traced → ℕ → Traced → Type 0
ChangesNext v from t to u =
    (w : Watch) → IsTraced w v from t → IsNextChange w v from (record { back = to; before = shown u })

-- what is traced so many steps back is seen so to so many
abbrev pub StaysAsItIs : View → ℕ → ℕ → Traced → Type 0
StaysAsItIs v from to t = (w : Watch) → IsTraced w v from t → StaysTo w v from to
