-- Laws of answers over any error with a number, for whoever reads them at a Refusal.
pub mod Same
