pub mod Building
pub mod CommaValues
pub mod Finding
pub mod Matching
pub mod Numbers
pub mod Outcomes
pub mod Segments
