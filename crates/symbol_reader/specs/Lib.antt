pub mod Sight
pub mod Correction
pub mod Reading
pub mod Drawn
pub mod GridLines
pub mod Scanning
pub mod UnknownLines
