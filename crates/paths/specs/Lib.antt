-- What is given, on a stack.
pub mod Paths
