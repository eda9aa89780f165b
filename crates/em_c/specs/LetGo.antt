-- Octets of frames that were sent are let go.
use Rattle.std.specs.Prelude.{ℕ, max, Option, Some, None, Result, Ok}
use Rattle.em_journal.specs.View.{View, sent_before}
use Rattle.em_trail.specs.Trail.{trail_without}
use Rattle.em_c.specs.declared.refused.Refused.{Refused}
use Rattle.em_c.specs.declared.tagged.Tagged.{Tagged}

-- so many frames were sent in the oldest state that steps back lead to: no step back takes them off the wire
abbrev pub frames_gone : View → Result ℕ Refused
frames_gone v = Ok (sent_before v)

-- the first k frames have no octet, in each state that steps back lead to, and were handed over
abbrev pub with_none_of : ℕ → Tagged → Tagged
with_none_of k t = record t { traced = trail_without k t.traced; handed = max t.handed k }

abbrev pub after_let_go : Tagged → Tagged
after_let_go t = with_none_of (sent_before t.traced.view) t

abbrev pub held_without : Option Tagged → Option Tagged
held_without None = None
held_without (Some t) = Some (after_let_go t)
