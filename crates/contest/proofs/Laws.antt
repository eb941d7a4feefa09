-- The laws of this crate, for its own proofs and for the crates above.
pub mod SameContest
pub mod Ends
pub mod Fair
pub mod Grants
pub mod SharesFairly
pub mod CountedRounds
pub mod RaisedContest
pub mod Rounds
