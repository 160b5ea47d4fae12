pub mod FittingLemmas
pub mod SizeLemmas
pub mod BitLemmas
mod CoreLemmas
mod Corners
mod Dots
mod DrawnLemmas
pub mod Layers
mod Lines
mod ModeLemmas
pub mod PaintingLemmas
mod Ranks
pub mod ReadLemmas
pub mod ShownCodewords
pub mod ShownLemmas
pub mod SizeParts
pub mod Spots
pub mod StuffingLemmas
pub mod SymbolLemmas
pub mod Bare
pub mod Sides
