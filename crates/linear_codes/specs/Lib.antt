pub mod Characters
pub mod Code39
pub mod Code93
pub mod FullAscii
pub mod Itf14
pub mod Structure
