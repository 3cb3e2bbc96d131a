pub mod MarginScale
pub mod Margins
