-- The laws of the debugger, by the promises that rest on them. The folders here are the proofs of functions, by the
-- modules of src of the same names.
--
-- Each line is answered as defined (`obey`, `show`):
--      TextLaws: a text by whether one number is below another, on which most answers rest
--      AnsweringLaws: lines that ask for no file; PerformingLaws (`perform_typed`): a typed line, and its answer
--      ToldLaws (`put`, `kept_of`): what is kept of answers; CameLaws: how lines came out
--      ExpectingLaws: what a line says is no longer than the line
--      ReadingLaws (`why_at`), EventBefore: an event is asked for only where it did nothing, and where engines stand
--      still it does not matter how many stood before
-- Lines ahead and behind (`play_all`, `play_until`, `next`, `back`):
--   1  PlaceLaws (`line_here`): the line of a place; NotedLaws: what a tape notes; NextLaws (`next`): shown one by one
--   2  PlayedLaws: played and counted; 3 StopsLaws (`play_until`): until something happens
--      StepsLaws (`show_steps`): steps of the engines; MovesLaws (`back`): events that were taken back
--      RefusedLaws (`perform_ahead`): what stays where memory is refused
-- Who changed something (`search`, `in_deeper`, `the_found_event_led`):
--   1  NumberLaws: the numbers of events that stand
--   2  DeeperLaws (`deeper`): second tapes; WhoLaws (`who_all`): changes, each older than the one before
--      EffectLaws (`effect`): what is told of an event; LedLaws: the event that was found led so; AddingLaws
--      (`do_again`)
--      AccessesLaws (`newest_in`, `list_newest`): events of a sort; AccessedLaws (`newest_access`), LostLaws
--      (`lost_in`): events that were no access, or lost no frame
--      WhyLaws (`newest_such`, `why_tried`, `why_interrupt`): the newest line that came out in some way; what is told of
--      a step, of the interrupt line, and of what was looked at
-- Warnings (`has_warnings`): WarningsLaws: what rules said of each line stays beside it
-- Lines as they are listed (`write_around`, `write_lines_between`, `list_all`):
--   1  HistoryLaws: the lines that did something; 2 ExcerptLaws: lines of the script; ListingLaws: lists
-- Files (`save`, `load`, `saved_lines_are_read`):
--   1  FilesLaws: lines as a script; SavedLaws: such a script is read; BeginningLaws (`begin_text`): lines that were
--      added
--   2  OffersLaws (`write_script`): frames that are offered; SendingLaws (`make_place`): lines that sent frames
pub mod AccessedLaws
pub mod AccessesLaws
pub mod AddingLaws
pub mod AnsweringLaws
pub mod BeginningLaws
pub mod CameLaws
pub mod DeeperLaws
pub mod EffectLaws
pub mod EventBefore
pub mod ExcerptLaws
pub mod ExpectingLaws
pub mod FilesLaws
pub mod HistoryLaws
pub mod LedLaws
pub mod ListingLaws
pub mod LostLaws
pub mod MovesLaws
pub mod NextLaws
pub mod NotedLaws
pub mod NumberLaws
pub mod OffersLaws
pub mod PerformingLaws
pub mod PlaceLaws
pub mod PlayedLaws
pub mod ReadingLaws
pub mod RefusedLaws
pub mod SavedLaws
pub mod SendingLaws
pub mod StepsLaws
pub mod StopsLaws
pub mod TextLaws
pub mod ToldLaws
pub mod WarningsLaws
pub mod WhoLaws
pub mod WhyLaws
