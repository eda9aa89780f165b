-- The laws of kept runs, by the promises that rest on them. The folders here are the proofs of functions, by the
-- modules of src of the same names.
--
-- Each text is exact (`write_event`, `write_refused`, `write_whole_lines`): Texts; ShownNames (`write_end`): names of
--   files
-- What is written is read back (`events_are_read_back`, `refusals_are_read_back`, `steps_back_are_read_back`):
--   1  PartsOfLines: a line of what it says, an answer and a place
--   2  DigitSteps on single digits, DigitLaws: what digits write; 3 EventWords: an event or steps back, by words
--   4  SourcePlaces: a source breaks no line (`a_plain_name_stays`); 5 LineLaws on all of these
-- The head does nothing when it is played (`the_head_is_silent`): HeadLaws on LineLaws
mod Texts
mod ShownNames
mod PartsOfLines
mod DigitSteps
mod DigitLaws
mod EventWords
mod SourcePlaces
pub mod LineLaws
pub mod HeadLaws
