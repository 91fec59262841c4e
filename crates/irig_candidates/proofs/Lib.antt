pub mod BaseLemmas
pub mod BestLemmas
pub mod BitLemmas
pub mod FarLemmas
pub mod RowLemmas
pub mod StandardFacts
