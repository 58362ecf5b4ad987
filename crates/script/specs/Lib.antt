pub mod Records
pub mod Kinds
pub mod Reader
pub mod Lines
