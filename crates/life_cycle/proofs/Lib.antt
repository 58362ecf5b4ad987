pub mod Encoding
pub mod Table
pub mod Covering
pub mod Distinct
pub mod Decoding
