pub mod Walks
pub mod ByNumber
pub mod Alphabets
