pub mod Stack
pub mod Blocks
pub mod Notes
pub mod Rows
