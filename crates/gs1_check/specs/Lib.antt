pub mod ElementStrings
pub mod Identifiers
pub mod LeadingStrings
pub mod Sections
