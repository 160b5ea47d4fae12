pub mod Corrections
pub mod Finders
mod ModeFronts
pub mod OneFault
pub mod OneSize
pub mod Sights
mod UnknownTexts
mod OpenTexts
pub mod PictureTexts
pub mod ReadOnce
pub mod DrawnReads
pub mod DrawnTexts
pub mod KnownTexts
mod TextEnds
mod TextModules
mod TextRuns
