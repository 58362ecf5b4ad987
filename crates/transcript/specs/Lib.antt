pub mod Files
pub mod Transcript
pub mod Runs
pub mod Printed
pub mod WrongLengths
