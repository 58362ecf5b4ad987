pub mod Numbers
pub mod RecordKinds
pub mod Records
pub mod Digits
pub mod Decimal
pub mod Lines
pub mod Examples
