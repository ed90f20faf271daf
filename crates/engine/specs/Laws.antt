-- Laws that proofs cite; nothing here has to be believed.
pub mod Gate
pub mod Fetch
pub mod Going
pub mod Walk
pub mod AsBefore
pub mod Fits
pub mod Kept
pub mod Sticky
