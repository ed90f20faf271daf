-- Laws that proofs cite; nothing here has to be believed.
pub mod Sums
pub mod Saturation
pub mod Numbers
