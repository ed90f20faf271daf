-- Laws that proofs cite; nothing here has to be believed.
pub mod Products
pub mod Duals
pub mod Manual
