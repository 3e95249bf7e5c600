pub mod Chains
pub mod Frees
