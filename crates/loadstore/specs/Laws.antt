-- Laws that proofs cite; nothing here has to be believed.
pub mod Loads
pub mod Base
pub mod Stores
