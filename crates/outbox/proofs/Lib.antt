pub mod Listed
mod Queued
