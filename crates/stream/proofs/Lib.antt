pub mod Draining
pub mod Listed
pub mod Nexts
pub mod Reals
pub mod Refusals
mod Sames
pub mod Zeros
