pub mod Words
pub mod Programming
