pub mod CharacterSets
pub mod DrawingOptions
pub mod Forms
pub mod Looks
pub mod SetPlace
pub mod Settings
pub mod Symbologies
