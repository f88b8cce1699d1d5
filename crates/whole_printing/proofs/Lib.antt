-- The laws.
pub mod Points
