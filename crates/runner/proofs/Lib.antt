pub mod Joining
pub mod Procedures
pub mod Rows
