-- The laws of what changed last, by the promises that rest on them. The folders here are the proofs of functions, by
-- the modules of src of the same names.
--
--   1  TracedLaws (`step_back`, `seen_back`): a watched thing, followed back over records
--   2  SearchLaws (`last_change`, `change_within`): the change that is named is the newest, or none is among the states
--      that were gone through
--   2  OctetLaws (`octets_around`): octets just before an event and just after it
--   2  AloneLaws (`is_left`, `next_changed`): registers that a record leaves alone, without a look at them
--   2  DifferenceLaws (`difference_of`): what an event did, by what was traced before it and after it
pub mod TracedLaws
pub mod SearchLaws
pub mod DifferenceLaws
pub mod OctetLaws
pub mod AloneLaws
