-- The laws of `mean`.
pub mod Rounding
pub mod Sums
pub mod Signs
pub mod Cases
pub mod Standing
pub mod Example
