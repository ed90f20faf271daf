-- Demand 3 on any machine, proved: theorems of their own, and no proof of a function.
pub mod Chains
