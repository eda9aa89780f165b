-- The laws of captures, by the promises that rest on them. The folders here are the proofs of functions, by the modules
-- of src of the same names.
--
-- A capture gives exactly its packets up to its first fault (`next_packet`):
--   1  ReadingLaws: going on in a capture; 2 CaptureLaws: as far as it is read
--      OptionLaws (`option_value`): going over options, one after another
-- What is written is exact, and is read again (`write_record`, `what_is_written_is_read`): WritingLaws on ReadingLaws
pub mod OptionLaws
pub mod ReadingLaws
pub mod CaptureLaws
pub mod WritingLaws
