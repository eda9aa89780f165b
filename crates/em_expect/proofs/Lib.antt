-- The laws of expected answers. The folders here are the proofs of functions, by the modules of src of the same names.
--
-- FieldsLaws (`write_told`): the text of a register's fields, from the rows that the code has
mod FieldsLaws
