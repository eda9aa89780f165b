-- The laws of JSON, by the functions that rest on them. The folders here are the proofs of functions, by the modules of src
-- of the same names.
--
-- StringLaws (`write_lossy`): octets that may be any, run by run
-- JoinedLaws (`write_joined`, `write_joined_behind`): lists of strings, line by line
pub mod StringLaws
pub mod JoinedLaws
