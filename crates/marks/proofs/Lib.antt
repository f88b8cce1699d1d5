pub mod Equal
pub mod Proved
