pub mod ExponentialOwes
pub mod ExplicitOwes
