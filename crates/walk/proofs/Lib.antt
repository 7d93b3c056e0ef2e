pub mod Walking
pub mod Outlines
pub mod Finding
pub mod Listing
pub mod Among
