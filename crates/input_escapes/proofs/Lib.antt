pub mod Digits
pub mod Faults
pub mod Fronts
pub mod Joining
pub mod Undoing
pub mod Uniqueness
