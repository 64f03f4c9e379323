pub mod CutLemmas
pub mod PieceLemmas
pub mod ReaderLemmas
pub mod DecimalLemmas
pub mod FaultLemmas
