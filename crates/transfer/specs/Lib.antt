pub mod Transfers
pub mod Laws
