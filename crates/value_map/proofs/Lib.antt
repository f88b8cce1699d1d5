-- The laws of `value_map`.
pub mod Products
pub mod Values
pub mod Owed
pub mod Cases
pub mod Ways
pub mod Late
pub mod Steps
pub mod Kept
pub mod Damaged
pub mod ExponentialOwes
pub mod ExplicitOwes
