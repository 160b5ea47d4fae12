pub mod Generator
pub mod Division
pub mod Rows
