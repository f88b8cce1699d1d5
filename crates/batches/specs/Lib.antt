pub mod Agreed
pub mod Batch
pub mod Owned
pub mod Inner
pub mod Asked
