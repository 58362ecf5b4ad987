pub mod Sponge
pub mod Streaming
pub mod PaddingBits
