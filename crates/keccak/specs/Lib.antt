pub mod State
pub mod StepMappings
pub mod Permutation
pub mod Tables
