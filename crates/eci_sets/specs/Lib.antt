pub mod CharacterSets
pub mod CodePages
pub mod Encodings
pub mod JoinedTexts
pub mod Utf16
