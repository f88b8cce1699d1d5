pub mod Cases
pub mod Recording
