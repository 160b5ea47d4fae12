mod CodePageTexts
pub mod Decoded
mod Encoded
pub mod OneText
pub mod TableLemmas
pub mod Units
pub mod Utf8Texts
pub mod Walking
