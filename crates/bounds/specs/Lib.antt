pub mod Bounds
pub mod Table
