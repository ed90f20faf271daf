pub mod Exclusive
pub mod Laws
