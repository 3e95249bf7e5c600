pub mod Added
pub mod Answered
pub mod Chains
pub mod Items
pub mod Quoted
pub mod Unfolding
