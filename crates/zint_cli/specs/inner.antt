-- Definitions that tie the code to its proof, and that the promise does not need.
pub mod OutputText
pub mod Stopped
