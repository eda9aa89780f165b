-- What a machine shows in one state.
use Rattle.std.specs.Prelude.{ℕ, Bool, List, length, Option}
use Rattle.std.specs.Option.{option_map}
use Rattle.em_regs.specs.Table.{reg_of}
use Rattle.em_latch.specs.Latches.{causes, mask}
use Rattle.em_step.specs.State.{State}
use Rattle.em_step.specs.Access.{gives}
use Rattle.em_watch.specs.MemoryChange.{octet_in}
use Rattle.em_watch.specs.Watching.{is_asserted}

pub record Shown : Type 0 where
  -- what a look gives at each offset, where the machine's profile has a register there
  pub register : ℕ → Option ℕ
  -- the octet of guest memory at each address, where memory has it
  pub octet : ℕ → Option ℕ
  -- how many frames lie in the FIFO
  pub frames : ℕ
  -- the frames that were sent, the first one first
  pub wire : List (List ℕ)
  -- the octets that are gathered for the next one
  pub gathered : List ℕ
  -- whether the link is up
  pub link : Bool
  -- whether the interrupt line is asserted
  pub line : Bool

abbrev pub shown_in : State → Shown
shown_in s = record {
  register = λ o. option_map (gives s) (reg_of s.profile o);
  octet = λ a. octet_in s a;
  frames = length s.fifo.frames;
  wire = s.wire;
  gathered = s.gathered;
  link = s.link;
  line = is_asserted (causes s.latches) (mask s.latches);
}
