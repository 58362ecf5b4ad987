pub mod Groups
pub mod Boxes
pub mod Permutation
pub mod Lookups
pub mod KeyRegister
pub mod Inverse
pub mod Backwards
pub mod Vectors
