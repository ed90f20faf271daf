-- Laws that proofs cite; nothing here has to be believed.
pub mod Operands
pub mod Places
pub mod Links
