pub mod Checking
pub mod Scopes
