pub mod Codewords
pub mod Symbol
