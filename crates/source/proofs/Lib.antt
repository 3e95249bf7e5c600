pub mod Blocks
pub mod Cards
