pub mod Bytes
pub mod Lent
pub mod Locks
pub mod Made
pub mod Parts
