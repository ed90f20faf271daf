-- Laws that proofs cite; nothing here has to be believed.
pub mod Bytes
pub mod Plans
