pub mod BarLaws
pub mod TableLaws
