-- The laws of the latches, by the promises that rest on them. The folders here are the proofs of functions, by the
-- modules of src of the same names.
--
-- A change of a word is the table's, and is taken back (`swap`, `grow`, `shrink`):
--   1  PlaceLaws: where the latches keep their words; CountLaws (`raise_into`, `count_pair`): by how much words grow
--   1  UndoLaws: reversed changes, one after another; 2 RecordLaws on UndoLaws (`push`, `pop`): how a record keeps
--      growths
-- A record tells what it restores, without going back (`before`): BeforeLaws on PlaceLaws
pub mod PlaceLaws
pub mod UndoLaws
pub mod RecordLaws
pub mod BeforeLaws
pub mod CountLaws
