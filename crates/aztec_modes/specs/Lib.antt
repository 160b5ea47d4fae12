pub mod Codes
pub mod Entry
pub mod Spelling
pub mod Message
pub mod Reading
pub mod Ahead
pub mod Split
