-- The laws of typed lines, by the promises that rest on them. The folders here are the proofs of functions, by the
-- modules of src of the same names.
--
-- RegisterLaws (`named`): the register that a word names
-- BitsLaws (`bits_of`, `first_name`): the bits that a word names, one after another
pub mod BitsLaws
pub mod RegisterLaws
