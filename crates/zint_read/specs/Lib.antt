pub mod Images
pub mod ReadReport
pub mod Seen
pub mod frames
pub mod readers
