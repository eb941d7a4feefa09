pub mod Bands
pub mod Rounds
pub mod Grants
pub mod Fairness
pub mod RaisedContest
