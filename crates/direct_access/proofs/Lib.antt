pub mod Places
pub mod Decisions
pub mod Results
pub mod ReadLock
