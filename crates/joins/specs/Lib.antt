pub mod Queue
pub mod Spelling
pub mod Ways
pub mod Answers
