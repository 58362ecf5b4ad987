pub mod Permit
