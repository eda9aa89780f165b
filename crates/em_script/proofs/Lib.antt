-- The laws of scripts, by the promises that rest on them. The folders here are the proofs of functions, by the modules
-- of src of the same names.
--
-- What is written is the text of the lines, and they are a run of calls (`play`):
--      CallLemmas: the calls that lines make; PrintLemmas: a line in two parts
--      ReplyLemmas (`obey`, `perform_event`): what single commands do; SeatLemmas (`call_driver`): a driver between
--      calls
-- Where memory was refused, it is said (`a_request_is_played_or_says_so`):
--   1  DriverAnswerLemmas: a call to which memory was refused says so; 2 CallingLemmas: a line that asks a driver
--   3  MemoryLemmas: scripts to which it was refused nowhere
-- What lines did with events is what their calls did (`a_line_did_so`): DidLemmas on CallLemmas
pub mod PrintLemmas
pub mod SeatLemmas
pub mod ReplyLemmas
pub mod MemoryLemmas
pub mod CallLemmas
pub mod DriverAnswerLemmas
pub mod CallingLemmas
pub mod DidLemmas
