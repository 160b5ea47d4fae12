pub mod FirstCodes
