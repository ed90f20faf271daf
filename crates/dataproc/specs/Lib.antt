pub mod Dataproc
pub mod Laws
