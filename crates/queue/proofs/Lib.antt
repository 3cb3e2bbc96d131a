pub mod Contents
pub mod Newest
pub mod Regions
pub mod Rings
mod Turned
