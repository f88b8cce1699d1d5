-- The laws.
pub mod Putting
pub mod Sets
pub mod Points
pub mod Singles
pub mod Example
