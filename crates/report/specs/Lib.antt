pub mod Batches
pub mod Bytes
pub mod Events
pub mod Hex
pub mod Inputs
