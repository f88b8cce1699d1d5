-- The laws of `replay_state`.
pub mod Front
pub mod Named
pub mod Binds
pub mod Lines
pub mod Same
