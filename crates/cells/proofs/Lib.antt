pub mod Occs
pub mod Links
pub mod Tallies
pub mod Downs
pub mod Giving
