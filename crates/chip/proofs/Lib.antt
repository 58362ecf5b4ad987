pub mod Judging
pub mod Reading
pub mod Acting
pub mod LifeCyclePlace
pub mod Theorems
pub mod Cases
pub mod Examples
