pub mod Rotation
pub mod Lanes
pub mod Steps
pub mod Lengths
pub mod Examples
