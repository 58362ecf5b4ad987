pub mod Map
pub mod Map1
pub mod Map2
pub mod Maps
pub mod Fitness
