-- The laws of frames of captures, by the promises that rest on them. The folders here are the proofs of functions, by
-- the modules of src of the same names.
--
-- ArrivalLaws (`arrivals_of`): frames that are read one after another
-- SentLaws (`write_sent`): records that are written one after another
-- MomentLaws (`number_in`): the digits of a time
pub mod ArrivalLaws
pub mod MomentLaws
pub mod SentLaws
