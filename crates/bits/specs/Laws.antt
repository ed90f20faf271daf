-- Laws that proofs cite; nothing here has to be believed.
pub mod Bools
pub mod Order
pub mod Diff
pub mod Wrap
pub mod Signed
pub mod Range
pub mod Words
pub mod Count
