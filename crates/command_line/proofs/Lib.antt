pub mod GrantsLemmas
pub mod WrittenPieces
pub mod PrintableLemmas
