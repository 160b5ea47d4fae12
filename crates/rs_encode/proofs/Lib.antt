pub mod DivisionLemmas
pub mod GeneratorLemmas
pub mod RowLemmas
