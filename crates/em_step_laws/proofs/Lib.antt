-- The laws of single events, by the files that prove them. The folders here are the proofs of the functions of
-- src/laws.rt.
--
-- FateLaws (`fates`): each arrival has one fate
-- InertLaws (`registers_without_a_rule_are_inert`): no event goes by registers and bits without a rule
-- MachineLaws (`machines_are_reached`): the states that a machine comes to
-- ReachedLaws (`rings_are_small`): the receive ring of such a state
-- PieceLaws on ReachedLaws (`pieces`): the receive engine's steps, as steps of the whole adapter
pub mod FateLaws
pub mod ReachedLaws
pub mod PieceLaws
pub mod InertLaws
pub mod MachineLaws
