pub mod Checking
pub mod Scopes
pub mod Passing
pub mod Naming
pub mod Wholes
pub mod Stepping
