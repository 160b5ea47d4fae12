pub mod FourState
pub mod Structure
