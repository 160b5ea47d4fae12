pub mod ItfLaws
pub mod TableLaws
pub mod TableFacts
