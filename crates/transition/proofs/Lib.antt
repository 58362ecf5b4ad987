pub mod Tokens
pub mod Moving
