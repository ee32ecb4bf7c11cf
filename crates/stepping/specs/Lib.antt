pub mod Replies
pub mod Steps
pub mod OnSheets
pub mod Outcomes
