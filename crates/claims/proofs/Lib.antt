-- Demand 3, proved: theorems over the statements of specs/.
pub mod Link
pub mod Demand3
