pub mod Runs
pub mod Drawing
