pub mod States
pub mod Steps
pub mod Runs
pub mod Promises
