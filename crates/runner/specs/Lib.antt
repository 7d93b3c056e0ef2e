-- What is printed of a program.
pub mod Written
