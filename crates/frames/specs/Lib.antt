pub mod Bytes
pub mod Frames
