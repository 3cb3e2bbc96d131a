pub mod Asking
pub mod Places
pub mod Firsts
