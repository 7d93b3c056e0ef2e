-- The language: programs, their text, which are sound, how much there is to show of them, what they do.
pub mod Base
pub mod Syntax
pub mod Tokens
pub mod Grammar
pub mod Soundness
pub mod Amount
pub mod Meaning
-- programs as rows of instructions, and how these lie in words
pub mod Layout
pub mod Instr
pub mod Code
pub mod Holding
-- what the lexer sees
pub mod Ahead
pub mod Places
pub mod Kinds
-- places as people count them
pub mod Positions
