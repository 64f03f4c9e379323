pub mod Content
pub mod Calls
pub mod Hints
pub mod Lazy
