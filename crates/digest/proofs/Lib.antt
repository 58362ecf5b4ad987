pub mod Chunks
pub mod Fits
