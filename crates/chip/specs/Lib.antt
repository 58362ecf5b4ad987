pub mod Chip
pub mod Judging
