-- Laws that proofs cite; nothing here has to be believed.
pub mod Lists
pub mod Loops
pub mod Sources
pub mod Ways
pub mod Stores
