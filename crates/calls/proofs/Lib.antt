pub mod Truth
pub mod Queued
pub mod Following
pub mod Promising
