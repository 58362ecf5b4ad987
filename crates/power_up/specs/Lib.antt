pub mod PowerUpEnd
