pub mod Lexing
pub mod Codes
pub mod Positions
pub mod Widths
pub mod Sameness
