pub mod BitLemmas
pub mod BlockLemmas
pub mod NoteLemmas
pub mod WalkLemmas
pub mod RowLemmas
