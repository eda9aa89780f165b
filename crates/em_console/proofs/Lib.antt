-- The laws of a console, by the promises that rest on them. The folders here are the proofs of functions, by the
-- modules of src of the same names.
--
-- ReadingLaws (`read_line`, `take_at_hand`): the first line of what a reader has, from the parts that it gave
-- ServingLaws (`serve`): each line is answered before the next one is asked for
-- ObjectLaws (`write_answer`, `write_opening`, `answer`, `refuse`): objects, field by field, and whose answers they are
pub mod ReadingLaws
pub mod ServingLaws
pub mod ObjectLaws
