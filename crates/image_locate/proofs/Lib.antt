pub mod Search
pub mod FinderRings
pub mod Cuts
pub mod CutCores
