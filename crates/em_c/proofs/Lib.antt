-- The laws of the library for C, by the calls that rest on them. The folders here are the proofs of functions, by the
-- modules of src of the same names.
--
-- A handle is a box of a machine, and what it owns is the machine's (`into_box`, `of_parts`, `into_parts`):
--      BoxForm: of a machine; FramesForm: of the frames of a capture; the folders TheSendSync: it may go to another
--      thread
-- Steps back, several at a time, with the note of the newest event (`go_back`, `repeat`):
--      TrailBack, RunLaws
-- What is put into the caller's memory, item by item:
--      RegisterLaws (`count_all`, `fill`): registers that are not zero; RoomLaws (`room_of`): room in the FIFO
--      DifferencesLaws (`push_all`): what an event changed; WarningLaws (`lay`): warnings
--      PcapLaws (`read`): the frames of a capture
-- Memory that the caller holds is written where it differs, page by page (`rewrite`, `sync_pages`):
--   1  DifferenceLaws: where two lists differ; 2 SyncLaws
pub mod BoxForm
pub mod TrailBack
pub mod RunLaws
pub mod RegisterLaws
pub mod DifferenceLaws
pub mod SyncLaws
pub mod WarningLaws
pub mod DifferencesLaws
pub mod RoomLaws
pub mod FramesForm
pub mod PcapLaws
