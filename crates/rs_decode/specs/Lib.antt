pub mod Nearness
pub mod Euclid
pub mod Search
pub mod Values
pub mod Syndromes
