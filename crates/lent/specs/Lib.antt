-- Records kept in lent words.
pub mod Layout
pub mod Tables
pub mod Views
pub mod Parts
