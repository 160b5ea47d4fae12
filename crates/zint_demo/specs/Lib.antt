pub mod Generator
pub mod Text
pub mod Damage
pub mod Demonstration
