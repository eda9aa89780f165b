-- The laws of lines, by the promises that rest on them. The folders here are the proofs of functions, by the modules of
-- src of the same names.
--
-- FrameLemmas (`is_lengthened`): the octets of a frame; RequestLemmas (`is_address`): those of an Ethernet address
-- PlanLemmas (`are_turns`, `made_of`): the words of a plan, one after the other
-- PartsLemmas (`parts_of`): a line without a mark is what it says, and nothing stands behind that
pub mod PlanLemmas
pub mod FrameLemmas
pub mod RequestLemmas
mod PartsLemmas
