-- The laws of whole scripts. The folders here are the proofs of functions, by the modules of src of the same names.
--
-- What is written is the text of the lines, one after another, and they are counted (`run_lines`): RunLemmas
-- A kept run that is played again leads to the same machine (`a_kept_run_plays_the_same`):
--   1  BackLaws: how many steps back a run took, and where they lead; PlayLaws: lines that are played, one after
--      another
--   2  RunLaws on both: the same machine by the same answers
--   3  FileLaws: the same of the kept text as a whole, from its first line on
mod BackLaws
mod PlayLaws
mod RunLaws
pub mod FileLaws
pub mod RunLemmas
