pub mod Few
pub mod Unsnoc
pub mod Emptied
pub mod Rowed
pub mod Rowsay
pub mod Endings
