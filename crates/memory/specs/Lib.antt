pub mod Bytes
pub mod Plans
pub mod Laws
