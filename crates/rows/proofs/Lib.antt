-- The laws that the proofs of `rows` share.
pub mod Laws
pub mod Moves
pub mod Adds
pub mod Groups
pub mod Algebra
pub mod Cuts
pub mod Puts
pub mod Change
pub mod Parts
