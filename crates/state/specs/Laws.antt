-- Laws that proofs cite; nothing here has to be believed.
pub mod Words
pub mod Parts
pub mod RoundTrip
