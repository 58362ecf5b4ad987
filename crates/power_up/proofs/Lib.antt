pub mod Checking
pub mod Sensing
pub mod PowerUpEnd
