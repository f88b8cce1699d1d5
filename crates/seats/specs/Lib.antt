-- The definitions that the contracts and laws of `seats` cite.
pub mod Seats
pub mod Inner
