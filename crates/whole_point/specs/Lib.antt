pub mod Handing
pub mod Lists
