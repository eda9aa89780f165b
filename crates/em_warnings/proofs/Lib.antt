-- The laws of warnings, by the promises that rest on them. The folders here are the proofs of functions, by the modules
-- of src of the same names.
--
-- FindLemmas (`first_from`, `flaws_are_found`): what a search finds
-- WrittenLaws (`is_rewritten`): the newest change of a descriptor; RulesLaws: registers about which one rule alone asks
-- AskedLaws (`nothing_is_found_unasked`): where the rules are not asked, nothing is found
mod FindLemmas
mod WrittenLaws
mod RulesLaws
pub mod AskedLaws
