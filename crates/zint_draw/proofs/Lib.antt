pub mod Drawn
pub mod Heights
pub mod LinearFaults
pub mod Messages
pub mod OneDrawing
pub mod OneMessage
pub mod ProperMessages
pub mod SegmentSteps
