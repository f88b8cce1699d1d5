pub mod Any
pub mod Histograms
pub mod Wholes
