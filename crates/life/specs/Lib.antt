pub mod Callers
pub mod Lives
