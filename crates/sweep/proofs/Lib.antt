-- The laws of `sweep`.
pub mod Marks
pub mod Packs
pub mod Stayers
pub mod Turns
pub mod Whole
pub mod Faithful
pub mod Settled
