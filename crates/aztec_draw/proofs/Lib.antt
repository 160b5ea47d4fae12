pub mod Held
pub mod OneModeMessage
pub mod OneSymbol
pub mod Refusals
pub mod Spelled
