pub mod Encoding
pub mod CShake
