pub mod Numbers
pub mod States
pub mod Counting
pub mod Ops
pub mod Walking
