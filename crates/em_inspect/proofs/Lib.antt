-- The laws of what is shown, by the promises that rest on them. The folders here are the proofs of functions, by the
-- modules of src of the same names.
--
-- TwoPartLemmas (`write_octet_line`, `write_line_at`): octets that are given in two parts
-- LineLemmas (`write_descriptors`, `write_lines_in_two`): lines by the numbers from 0 on, one after another
pub mod LineLemmas
pub mod TwoPartLemmas
