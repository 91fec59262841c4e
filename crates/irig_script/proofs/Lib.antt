pub mod ObeyLemmas
pub mod LawLemmas
pub mod PrintLemmas
