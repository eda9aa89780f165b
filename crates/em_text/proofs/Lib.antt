-- The laws of text, by the promises that rest on them. The folders here are the proofs of functions, by the modules of
-- src of the same names.
--
-- Words are taken off a line one by one (`next`, `word_len`, `is_name`): WordsLemmas
-- A word's number and its octets are as defined (`number`, `octets_into`, `decode`):
--   1  NumbersLemmas: by cases; DigitsLemmas: the tables of digits that stand in the code
--   2  OctetsLemmas on NumbersLemmas: octets; FrontLemmas on WordsLemmas too: at the front of a text
-- Lines are taken off a script (`next_line`, `line_len`): LinesLemmas on FrontLemmas
-- Texts are read and written whole: ReadingLemmas (`read_behind`), WritingLemmas (`write_in_parts`, `write_octets`)
pub mod DigitsLemmas
pub mod LinesLemmas
pub mod WordsLemmas
pub mod NumbersLemmas
pub mod OctetsLemmas
pub mod FrontLemmas
pub mod ReadingLemmas
pub mod WritingLemmas
