-- The laws of a list that is made short, by the functions that rest on them. The folders here are the proofs of functions,
-- by the modules of src of the same names.
--
-- PartLaws (`reduce`, `one_by_one`, `without_pieces`): some of a list's items, and some of these
pub mod PartLaws
