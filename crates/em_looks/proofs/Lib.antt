-- The laws of looks, by the promises that rest on them. The folders here are the proofs of functions, by the modules of
-- src of the same names.
--
-- EffectLemmas (`write_effect`, `write_changes`): the lines of what an event changed, one after another
-- FrameLemmas (`show_waiting`): frames that wait; ViewLemmas (`show_register`, `show_ring`): a register, a ring
pub mod FrameLemmas
pub mod ViewLemmas
pub mod EffectLemmas
