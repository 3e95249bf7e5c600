pub mod Reading
pub mod Writing
pub mod Adequate
pub mod Kept
pub mod Comparing
