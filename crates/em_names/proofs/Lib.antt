-- The laws of names, by the promises that rest on them. The folders here are the proofs of functions, by the modules of
-- src of the same names.
--
-- NameLaws (`parse_in`): no two registers have one name, and none begins with a digit
-- BitLaws (`write_bits`, `write_rest`): the text of a table of bits, from the rows that the code has
pub mod NameLaws
pub mod BitLaws
