-- The laws of explanations, by the promises that rest on them. The folders here are the proofs of functions, by the
-- modules of src of the same names.
--
-- WhyLaws (`only_what_did_nothing_is_asked`): an event that did something has no reason
-- MaskedLaws (`write_masked`): the text of the fields that a mask touches
mod MaskedLaws
pub mod WhyLaws
