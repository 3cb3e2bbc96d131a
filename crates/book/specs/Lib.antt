pub mod Books
pub mod Format
pub mod Pages
pub mod Readings
