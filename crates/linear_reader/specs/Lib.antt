pub mod Patterns
pub mod Row
pub mod Checks
pub mod Data
pub mod Scan
pub mod Drawn
pub mod RowText
