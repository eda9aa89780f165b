pub mod TableLaws
pub mod InexactLaws
