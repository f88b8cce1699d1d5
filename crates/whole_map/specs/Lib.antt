pub mod Exponential
pub mod Explicit
