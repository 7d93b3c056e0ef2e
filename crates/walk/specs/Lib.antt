pub mod Roles
pub mod Spans
pub mod Shapes
pub mod Walking
pub mod Listing
pub mod Nests
