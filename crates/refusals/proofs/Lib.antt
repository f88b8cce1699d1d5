-- Laws of numbers, for whoever asks whether a call was refused.
pub mod Numbers
