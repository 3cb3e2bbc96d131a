pub mod Nodewise
pub mod Composing
pub mod Costs
pub mod Planned
pub mod Lawful
