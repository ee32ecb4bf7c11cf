pub mod Slides
pub mod Planning
pub mod Outcomes
