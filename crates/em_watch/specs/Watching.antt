-- What is seen of a watched thing.
use Rattle.std.specs.Prelude.{ℕ, ◌-◌, ◌==◌, ◌&&◌, Bool, not, nat_lt, if◌then◌else◌, List, ◌++◌, length, map, replicate}
use Rattle.std.specs.Prelude.{bit_and}
use Rattle.em_mem.specs.Memory.{leaves, part}
use Rattle.em_regs.specs.declared.reg.Reg.{Reg}
use Rattle.em_regs.specs.Table.{has_reg, index_of, row_of}
use Rattle.em_latch.specs.Latches.{causes, mask}
use Rattle.em_phy.specs.Phy.{read_word}
use Rattle.em_step.specs.State.{State, is_adapter}
use Rattle.em_step.specs.Access.{gives}
use Rattle.em_journal.specs.View.{View, states}
use Rattle.em_watch.specs.declared.range.TheConstants.{MOST_WATCHED}
use Rattle.em_watch.specs.declared.watch.Watch.{Watch}
use Rattle.em_watch.specs.declared.watch.Watch.TheVariants as watch
use Rattle.em_watch.specs.declared.watch.Sight.{Sight}
use Rattle.em_watch.specs.declared.watch.Sight.TheVariants.{Nothing, Value, Octets, Line, Link, Count}

-- the adapter has the register
abbrev pub is_there : State → Reg → Bool
is_there s reg = nat_lt (index_of reg) (row_of reg).words && has_reg s.profile reg

-- of a register, if the table has it: what a look shows
abbrev pub register_sight : State → Reg → Sight
register_sight s reg = if is_there s reg then Value (gives s reg) else Nothing

-- of n octets from a on, if memory, which begins at a base, has them: the octets, and zeros behind them
abbrev pub octets_sight : ℕ → List ℕ → ℕ → ℕ → Sight
octets_sight base memory a n =
    if leaves base memory a n then Nothing
    else Octets (part memory a n ++ replicate (MOST_WATCHED - n) 0)

-- some cause is set that the mask lets through
abbrev pub is_asserted : ℕ → ℕ → Bool
is_asserted causes mask = not (bit_and causes mask == 0)

-- of a word of the PHY, if the adapter has MDIC: what a read by it gives
abbrev pub word_sight : State → ℕ → Sight
word_sight s k = if is_adapter s.profile then Value (read_word s.phy.words s.link k) else Nothing

-- what is seen in a state
abbrev pub sight : Watch → State → Sight
sight (watch.Register reg) s = register_sight s reg
sight (watch.Octets range) s = octets_sight s.base s.memory range.addr range.len
sight watch.Line s = Line (is_asserted (causes s.latches) (mask s.latches))
sight watch.Link s = Link s.link
sight watch.Frames s = Count (length s.fifo.frames)
sight watch.Sent s = Count (length s.wire)
sight (watch.Phy word) s = word_sight s word.number

-- what is seen in the present state and in those before it
abbrev pub sights : Watch → View → List Sight
sights w v = map (sight w) (states v)
