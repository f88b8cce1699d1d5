-- The laws of `pooling`.
pub mod Whole
pub mod Integers
pub mod Verdicts
pub mod Placed
pub mod Shadows
pub mod Calls
pub mod PutBack
pub mod Held
pub mod Merges
pub mod WholeMerges
