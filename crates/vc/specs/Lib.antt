-- What is to be shown of a program: conditions on unknown numbers, and what it means that they are valid.
pub mod Terms
pub mod Symbolic
pub mod Conditions
pub mod Theorem
pub mod Worked
pub mod Texts
