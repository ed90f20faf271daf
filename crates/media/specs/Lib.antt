pub mod Media
pub mod Laws
