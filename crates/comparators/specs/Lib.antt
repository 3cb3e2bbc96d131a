pub mod Terms
pub mod Comparisons
pub mod Adding
pub mod Comparing
