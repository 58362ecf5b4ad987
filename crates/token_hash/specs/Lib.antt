pub mod TokenHash
