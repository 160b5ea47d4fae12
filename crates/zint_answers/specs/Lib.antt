pub mod Detail
pub mod FaultLine
pub mod ImageFaults
pub mod Refusals
pub mod Report
pub mod Steps
pub mod SymbolFaults
