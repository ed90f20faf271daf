-- Laws that proofs cite; nothing here has to be believed.
pub mod Reported
pub mod Sound
pub mod Fits
