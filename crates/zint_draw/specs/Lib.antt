pub mod Data
pub mod Drawing
pub mod Height
pub mod Message
pub mod Segments
pub mod symbologies
