-- The laws of the command line, by the promises that rest on them. The folders here are the proofs of functions, by the
-- modules of src of the same names.
--
-- Defaults (`parse`): each option has a value, by the words or by its default
-- Usual (`options`): a command line without words says the defaults
pub mod Defaults
pub mod Usual
