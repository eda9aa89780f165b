-- The laws of what scripts print, by the promises that rest on them. The folders here are the proofs of functions, by
-- the modules of src of the same names.
--
-- RegisterLemmas (`write_register`, `write_registers`): the lines of registers, one after another
-- WireLemmas (`write_frames`): the lines of the frames that were sent
pub mod RegisterLemmas
pub mod WireLemmas
