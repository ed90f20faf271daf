pub mod Cases
pub mod Fields
pub mod Integers
pub mod Words
pub mod Laws
