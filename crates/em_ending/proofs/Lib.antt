pub mod PlayingLemmas
