mod Completeness
mod Instances
mod Listed
mod Quotations
mod Read
mod Sets
mod Soundness
mod Theorems
