pub mod Digits
pub mod Laws
pub mod Reading
pub mod Verdicts
