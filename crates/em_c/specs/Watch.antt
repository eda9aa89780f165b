-- What C watches, and the change that it is told.
use Rattle.std.specs.Prelude.{◌≡◌, ◌⊎◌, ℕ, ◌<◌, ◌≤◌, IsTrue, List, replicate, if◌then◌else◌, Option, Some, None}
use Rattle.em_mem.specs.Memory.{LiesIn, leaves}
use Rattle.em_regs.specs.Table.{reg_of}
use Rattle.em_step.specs.State.{State}
use Rattle.em_journal.specs.View.{View}
use Rattle.em_watch.specs.Change.{IsNextChange, NeverDiffers}
use Rattle.em_watch.specs.declared.change.Change.{Change}
use Rattle.em_watch.specs.declared.watch.Sight.{Sight}
use Rattle.em_watch.specs.declared.watch.Sight.TheVariants as sight
use Rattle.em_watch.specs.declared.watch.Watch.{Watch}
use Rattle.em_watch.specs.declared.watch.Watch.TheVariants as watch
use Rattle.em_c.specs.declared.refused.Refused.{Refused}
use Rattle.em_c.specs.declared.refused.Refused.TheVariants.{NoMachine, NoRegister, Range, Length, NoWatch, NoChange}
use Rattle.em_c.specs.declared.tagged.Tagged.{Tagged}
use Rattle.em_c.specs.declared.watch.EmChange.{EmChange}
use Rattle.em_c.specs.declared.watch.EmWatch.{EmWatch}
use Rattle.em_c.specs.Refused.{number_of}

-- of a machine in this state: octets lie in its guest memory
abbrev pub IsWatch : EmWatch → State → Watch → Type 0
IsWatch w s (watch.Register reg) = (w.kind ≡ 1) × (reg_of s.profile w.offset ≡ Some reg)
IsWatch w s (watch.Octets range) =
    (w.kind ≡ 2) × (range.addr ≡ w.address) × (range.len ≡ w.octets) × LiesIn s.base s.memory w.address w.octets
IsWatch w s watch.Line = w.kind ≡ 3
IsWatch w s watch.Link = w.kind ≡ 4
IsWatch w s watch.Frames = w.kind ≡ 5
IsWatch w s watch.Sent = w.kind ≡ 6
IsWatch w s (watch.Phy word) = (w.kind ≡ 7) × (w.offset ≡ word.number)

-- an offset without a register, a word that the PHY has not, no octet or more than 16, octets that leave guest memory,
-- or a kind that there is not
abbrev pub IsNoWatch : EmWatch → State → Refused → Type 0
IsNoWatch w s NoRegister =
    ((w.kind ≡ 1) × (reg_of s.profile w.offset ≡ None)) ⊎ ((w.kind ≡ 7) × (31 < w.offset))
IsNoWatch w s Length = (w.kind ≡ 2) × ((w.octets ≡ 0) ⊎ (16 < w.octets))
IsNoWatch w s Range =
    (w.kind ≡ 2) × (0 < w.octets) × (w.octets ≤ 16) × IsTrue (leaves s.base s.memory w.address w.octets)
IsNoWatch w s NoWatch = (w.kind ≡ 0) ⊎ (7 < w.kind)
IsNoWatch w s refused = ⊥

-- what was seen, as a number
abbrev pub value_of : Sight → ℕ
value_of sight.Nothing = 0
value_of (sight.Value v) = v
value_of (sight.Octets octets) = 0
value_of (sight.Line is) = if is then 1 else 0
value_of (sight.Link is) = if is then 1 else 0
value_of (sight.Count n) = n

-- and as octets
abbrev pub octets_of : Sight → List ℕ
octets_of (sight.Octets octets) = octets
octets_of other = replicate 16 0

abbrev pub change_of : Change → EmChange
change_of change = record { back = change.back; value = value_of change.before; before = octets_of change.before }

-- the newest change is told, or there is none
abbrev pub ToldChange : Watch → View → EmChange → ℕ → EmChange → Type 0
ToldChange w v old code new =
    ((change : Change) × IsNextChange w v 0 change × (code ≡ 0) × (new ≡ change_of change))
    ⊎ (NeverDiffers w v 0 × (code ≡ number_of NoChange) × (new ≡ old))

abbrev pub FindsChange : Option Tagged → EmWatch → EmChange → ℕ → EmChange → Type 0
FindsChange None w old code new = (code ≡ number_of NoMachine) × (new ≡ old)
FindsChange (Some t) w old code new =
    let s = t.traced.view.present in
    ((watched : Watch) × IsWatch w s watched × ToldChange watched t.traced.view old code new)
    ⊎ ((refused : Refused) × IsNoWatch w s refused × (code ≡ number_of refused) × (new ≡ old))
