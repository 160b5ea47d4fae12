pub mod Bmp
pub mod BmpHeader
pub mod Pixels
pub mod PixelsRead
pub mod ReadBmp
pub mod Refusals
pub mod Samplings
