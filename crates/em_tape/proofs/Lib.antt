-- The laws of a tape, by the promises that rest on them. The folders here are the proofs of functions, by the modules
-- of src of the same names.
--
-- The place shows what its lines left, with the newest events taken back (`perform_next`, `back`, `goto`, `replay`):
--   1  TapeLaws: a place that moves, and the lines behind it; DidLaws: what a line did, by what is seen of it
--   2  AgainLaws: lines that are taken back and performed again; NotedLaws: what is noted of a line, among others
--   3  KeptLaws: what holds of a tape after each change; StandingLaws: the events that stand, and their numbers
-- Lines ahead of the place are dropped, and the place shows the same (`cut`, `take_for_good`): CutLaws on NotedLaws
-- The laws of this crate: PlaceLaws (`a_place_shows_the_same`), LedLaws (`a_named_event_led`), OneStateLaws on both
--   (`an_event_names_one_state`, `a_cut_shows_the_same`)
pub mod TapeLaws
pub mod AgainLaws
pub mod NotedLaws
pub mod StandingLaws
pub mod KeptLaws
pub mod CutLaws
pub mod DidLaws
pub mod PlaceLaws
pub mod LedLaws
pub mod OneStateLaws
