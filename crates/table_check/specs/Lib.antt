pub mod Judging
pub mod Drafts
pub mod Plans
