-- The laws of this crate, for its own proofs and for the crates above.
pub mod LastOffers
pub mod LoopTurns
pub mod GrantedLevel
pub mod OfferOrder
pub mod Serving
pub mod GameAsLists
pub mod UnfitBands
pub mod ContestEnd
