-- The laws of what is read. The folders here are the proofs of functions, by the modules of src of the same names.
--
-- SizesLaws (`number_of`): the words of numbers are texts
pub mod SizesLaws
