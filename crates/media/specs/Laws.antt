-- Laws that proofs cite; nothing here has to be believed.
pub mod Kinds
pub mod Codes
