pub mod Numbers
pub mod Enters
pub mod Series
