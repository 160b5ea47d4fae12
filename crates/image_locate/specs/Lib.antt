pub mod Stands
pub mod Finding
