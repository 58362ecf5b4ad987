pub mod Encoding
pub mod Taking
pub mod Squeezing
pub mod Outputs
pub mod Examples
