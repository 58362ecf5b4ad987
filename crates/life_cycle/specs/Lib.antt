pub mod Words
pub mod Transitions
