pub mod StoredFiles
pub mod Kept
pub mod FoundFiles
pub mod FilesAfter
