mod Encodings
pub mod Forms
mod Grammar
mod Numerals
mod Pairs
pub mod Places
pub mod Prefixes
mod Rows
pub mod Tables
pub mod Texts
pub mod Writes
pub mod Writing
