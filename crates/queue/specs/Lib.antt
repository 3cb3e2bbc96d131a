pub mod Contents
pub mod Items
pub mod Regions
