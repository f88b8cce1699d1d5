-- The laws of `bindings`.
pub mod Releases
pub mod Binds
pub mod Refusals
pub mod Keeps
pub mod Runs
