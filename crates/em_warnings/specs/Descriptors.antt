-- The first of the adapter's descriptors that has a flaw.
use Rattle.std.specs.Prelude.{ℕ, ◌-◌, ◌%◌, ◌^◌, ◌&&◌, not, Bool, false, List, Option, find}
use Rattle.std.specs.Option.{option_map_or, option_or}
use Rattle.std.specs.List.{range_with_len}
use Rattle.em_regs.specs.declared.ring.Ring.{Ring}
use Rattle.em_regs.specs.Ring.{descriptor_at}
use Rattle.em_inspect.specs.Ring.{is_adapters, octets_at}
use Rattle.em_journal.specs.View.{View}
use Rattle.em_warnings.specs.declared.flaw.Flaw.{Flaw}
use Rattle.em_warnings.specs.declared.flaw.Flaw.TheVariants.{SentBefore}
use Rattle.em_warnings.specs.Flaw.{is_in}
use Rattle.em_warnings.specs.Written.{is_rewritten}

-- the driver wrote it since, and goes by the head and not by DD: this excuses a descriptor that is to be sent
abbrev pub is_excused : View → Flaw → ℕ → Bool
is_excused v SentBefore at = is_rewritten v at
is_excused v _ at = false

-- the descriptor that lies there (below 2^64, as all of memory does) has these octets, and with them the flaw
abbrev pub has_flaw : View → Flaw → ℕ → List ℕ → Bool
has_flaw v flaw at octets = is_in flaw octets && not (is_excused v flaw (at % 2 ^ 64))

-- descriptor i is the adapter's, lies in guest memory, and has the flaw
abbrev pub is_flawed : Ring → View → Flaw → ℕ → Bool
is_flawed r v flaw i =
    is_adapters r i && option_map_or (has_flaw v flaw (descriptor_at r i))
    (octets_at r v.present.base v.present.memory i) false

-- the first such from one index on, below another
abbrev pub first_from : Ring → View → Flaw → ℕ → ℕ → Option ℕ
first_from r v flaw from to = find (is_flawed r v flaw) (range_with_len from (to - from))

-- the first such from the head on, going round
abbrev pub first_flawed : Ring → View → Flaw → Option ℕ
first_flawed r v flaw = option_or (first_from r v flaw r.head r.count) (first_from r v flaw 0 r.head)
