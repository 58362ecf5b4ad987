pub mod Words
pub mod Parts
pub mod Rules
pub mod Programming
pub mod Lent
pub mod Alike
