-- The laws of this crate, for its own proofs and for the crates above.
pub mod Cases
pub mod FillingLoops
pub mod ListsByRule
pub mod Indices
pub mod Laying
pub mod LargerSmaller
pub mod Refusals
pub mod Runs
pub mod Sums
pub mod Differences
pub mod PrintedTables
pub mod MadeByCalls
pub mod Numbered
