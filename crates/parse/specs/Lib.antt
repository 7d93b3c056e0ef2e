-- Reading a text: the grammar without a bound on depth, and where a reader stands.
pub mod Layout
pub mod Unbounded
pub mod Reading
pub mod InExpr
pub mod InBool
pub mod Listed
pub mod Parts
pub mod InBlock
pub mod Procedures
pub mod Whole
pub mod Declaring
