-- Evaluation of expressions.
pub mod Numbers
pub mod States
pub mod Naming
pub mod Ops
pub mod Kinds
pub mod Stacking
pub mod Evaluating
