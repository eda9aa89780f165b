-- The laws of logs. The folders here are the proofs of functions, by the modules of src of the same names.
--
-- WordLemmas (`behind`): words that are taken one after another
mod WordLemmas
