-- The laws.
pub mod Following
