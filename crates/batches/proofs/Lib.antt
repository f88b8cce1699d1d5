-- The laws of `batches`.
pub mod Puts
pub mod Rooms
pub mod Asking
pub mod Slotted
pub mod Again
pub mod Batches
pub mod Ends
pub mod Owned
