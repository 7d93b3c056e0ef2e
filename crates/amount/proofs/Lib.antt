pub mod Weighing
pub mod Totals
pub mod Amounts
