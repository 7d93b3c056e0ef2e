-- Messages about a text.
pub mod Places
