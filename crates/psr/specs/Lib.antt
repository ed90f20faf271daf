pub mod Status
pub mod With
pub mod Laws
